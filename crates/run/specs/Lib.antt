-- The run: what it gives and stores, and the unread part of its schedule; the conditions of its refusals in document 01's words; demand 2 for a run; and
-- the theorems. Proof holds the arguments.
pub mod Run
pub mod Conditions
pub mod Demands
pub mod Saved
pub mod Theorems
pub mod Proof
