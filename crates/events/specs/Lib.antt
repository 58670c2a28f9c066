-- Events one after the other, and rows of events: the answers up to the stop, the state that the row ends in, and the counts; the same run by Figure 1
-- alone; the theorems, and the laws of a loop that takes a row. Proof holds the arguments.
pub mod Events
pub mod Row
pub mod FigureRun
pub mod Theorems
pub mod Laws
pub mod Proof
