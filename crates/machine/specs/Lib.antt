-- The step machine: what each line does, its refusals, what an event gives, one step as an executable definition, the conditions of document 01 in its own
-- words, and the theorems against Figure 1. Proof holds the arguments.
pub mod Acts
pub mod Refusals
pub mod Stepped
pub mod Step
pub mod Conditions
pub mod Demands
pub mod Theorems
pub mod Proof
