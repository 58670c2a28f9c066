-- One event, executed in place on the bytes of a saved state: what each of its functions asks for and gives. Proof holds the laws.
pub mod Event
pub mod Theorems
pub mod Proof
