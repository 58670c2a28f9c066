-- The arguments behind the theorems about schedules.
-- Records: both records are lawful. Events: the events of any bytes, and what stands at a number. Judged: the test and the rule agree.
-- Round: what was written is read, and what is read is written again. Gives: what stands at a place.
pub mod Records
pub mod Events
pub mod Judged
pub mod Round
pub mod Gives
