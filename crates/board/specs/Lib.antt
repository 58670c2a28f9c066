-- The calls for C and Rust, on saved states in bytes: what each gives, and the theorems on them. Proof holds the arguments.
pub mod Board
pub mod Theorems
pub mod Proof
