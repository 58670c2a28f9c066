-- Figure 1 of source document 000, and that a fresh state is one of its initial states.
pub mod Figure
pub mod Start
