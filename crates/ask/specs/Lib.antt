-- Questions about a state: the definitions that the calls' contracts cite, document 01's sentences as facts, and the theorems that the two agree.
-- Asked has the cases of an answer, Inner what an inner function asks for, and Proof the arguments.
pub mod Asked
pub mod Ask
pub mod Meaning
pub mod Inner
pub mod Theorems
pub mod Proof
