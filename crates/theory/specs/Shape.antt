-- The queue of the lock MCSHLi. Shape: the invariant. Neighbours: who stands where. Moves: what a step leaves to show. Start: a fresh lock has the shape.
-- Lines: each line keeps it. Goes: what follows from it.
pub mod Shape
pub mod Neighbours
pub mod Moves
pub mod Start
pub mod Lines
pub mod Goes
