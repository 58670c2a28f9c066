-- The laws behind the event. Arms: each arm is the event of the definition. Good: a saved state is ready for the event of each of its threads.
pub mod Arms
pub mod Good
