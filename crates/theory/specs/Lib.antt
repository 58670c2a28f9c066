-- What every run from a fresh lock has (demand 3). Demands: the statements, to be read first; proofs/Theorems: that our step and the run have them.
-- FigureSteps: sequences of the figure's own steps, of which they speak. Broken: machines that do not have them. Queue: the queue of any machine, over line
-- numbers as parameters. Shape: the queue of this lock, which every line keeps. Proof: from states to that shape.
pub mod Demands
pub mod FigureSteps
pub mod Broken
pub mod Queue
pub mod Shape
pub mod Proof
