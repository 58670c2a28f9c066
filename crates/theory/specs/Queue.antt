-- The queue of any machine: what is said here is over line numbers as parameters.
-- Functions: functions of a number, with one value changed. AtLines: facts that hold at some lines. Seen: a thread, as the theory sees it. Memory: what threads
-- share, as the theory sees it. Places: who has which place. Nodes: who owns which node. Links: neighbours. Order: first in, first out. Once: nobody passes
-- twice between another's exchange and its passage. Counts: entered, high and low. View: a state's tables, as the theory sees them. Stored: what is seen
-- after a step. Events: what lists of events keep.
pub mod Functions
pub mod AtLines
pub mod Seen
pub mod Memory
pub mod Places
pub mod Nodes
pub mod Links
pub mod Order
pub mod Once
pub mod Counts
pub mod View
pub mod Stored
pub mod Events
