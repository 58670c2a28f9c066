-- The laws of the run's loop, by which `run_events` is proved.
pub mod Laws
