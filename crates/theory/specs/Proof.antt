-- From states to the shape of the queue. Look: the line at which a thread is seen. Reached: what every state reached from a fresh lock has, and that a fresh lock
-- has it. That every step and every event keeps it, and what follows from it, is in proofs/.
pub mod Look
pub mod Reached
