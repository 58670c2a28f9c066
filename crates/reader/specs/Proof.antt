-- The arguments behind the theorems about the schedule reader.
-- Reads: a reader of a good schedule, asked again and again.
pub mod Reads
