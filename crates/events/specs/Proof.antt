-- The arguments behind the theorems about rows of events.
-- Answers: lists of answers and their counts. Rows: rows under any tool, by induction over the events.
-- Judged: events and rows from a valid state. Against: rows and Figure 1.
pub mod Answers
pub mod Rows
pub mod Judged
pub mod Against
