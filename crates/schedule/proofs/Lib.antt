-- The records of a schedule as an iterator gives them.
pub mod Chunks
