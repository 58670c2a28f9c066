-- The lock's state: its parts, the fresh state, the rule that a state is held to, and the theorems on these.
pub mod State
pub mod Laws
pub mod Fresh
pub mod Valid
pub mod Judged
pub mod Theorems
