-- The table of the nineteen lines.
pub mod Lines
pub mod ByRow
