-- Schedules: which bytes are one, what stands at a place of one, and the theorems on these. Proof holds the arguments.
pub mod Given
pub mod Schedule
pub mod Theorems
pub mod Proof
