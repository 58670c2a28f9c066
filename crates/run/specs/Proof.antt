-- The arguments behind the theorems about a run.
-- Refused: its four tests and their conditions, and which runs are accepted. Runs: a run that is refused, and one that is the row of its events.
-- Unread: the unread part. Split: a run in two parts. Counts: demand 2.
pub mod Refused
pub mod Runs
pub mod Unread
pub mod Split
pub mod Counts
