-- The step over a state that the host keeps: what it gives, and the theorems on it.
pub mod Kept
pub mod Theorems
