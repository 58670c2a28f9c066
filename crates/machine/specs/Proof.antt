-- The arguments behind the theorems about a step.
-- ByLine: what holds of each line holds of all. Table: the table says what document 01's sentences say. Clear: a refusal of 0, taken apart.
-- Answer: a step's answer, taken apart. Judges: each test of a step against its condition. Exactly: the answer and the conditions. Kept: a valid state
-- stays valid. Accepts: what an accepted step is. Stays: nothing else changes.
pub mod ByLine
pub mod Table
pub mod Clear
pub mod Answer
pub mod Judges
pub mod Exactly
pub mod Kept
pub mod Accepts
pub mod Stays
