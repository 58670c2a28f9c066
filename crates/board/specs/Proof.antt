-- The arguments behind the theorems about the calls on bytes.
-- Held: the state that bytes hold. Fresh: a saved fresh state. Runs: a run over a lent saved state. Asked: the questions.
pub mod Held
pub mod Fresh
pub mod Runs
pub mod Asked
