-- Saved states: their bytes, the rule that they are held to, read and save, and the theorems on these. Inner is what inner functions ask for and give;
-- Proof holds the arguments.
pub mod Saved
pub mod Inner
pub mod Theorems
pub mod Proof
