-- The numbers of a saved state where they stand in its bytes. Cells: what bytes hold, and what a store leaves. Inner: what inner functions give.
pub mod Cells
pub mod Inner
pub mod Proof
