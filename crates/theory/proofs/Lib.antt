-- Demand 3, proved, and what of its argument a change of its statements can refute. Steps: every step of Figure 1 keeps the shape, the order and the counts.
-- Reaches: so does every event from a fresh lock. States: what a reached state has. Passages: what lists of events have. Taken: the figure's steps are the
-- accepted ones. Runs: the same of `run`. Theorems: that our step and the run have demand 3.
pub mod Steps
pub mod Reaches
pub mod States
pub mod Passages
pub mod Taken
pub mod Runs
pub mod Theorems
