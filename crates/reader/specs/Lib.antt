-- The schedule reader: what it gives, and the theorems on it. Proof holds the arguments.
pub mod Reader
pub mod Theorems
pub mod Proof
