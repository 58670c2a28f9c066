-- The arguments behind the theorems about the step over a lent saved state.
-- Read: a step of what was read, and the bytes of the state after it. Answer: the answer, taken apart. Event: the event in the bytes is the step.
pub mod Read
pub mod Answer
pub mod Event
