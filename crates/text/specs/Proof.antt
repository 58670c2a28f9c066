-- The arguments behind the theorems about the text.
-- Digits: decimal digits. Lines: a line's fields. Begun: the run from fresh of a schedule's events. Given: what the call gives. Shows: what the fields show.
-- How the lines go on, and how long a text can be, is in proofs/.
pub mod Digits
pub mod Lines
pub mod Begun
pub mod Given
pub mod Shows
