-- A thread number, a node number and a place in the queue, "three separate quantities: a 3 in one is never read as a 3 in another": three types.
-- Assumes nothing.
use Rattle.std.specs.Prelude.{Bool, ◌&&◌, ℕ, ◌+◌, eqb, leb}
use Rattle.number.specs.declared.ThreadNo.{ThreadNo}
use Rattle.number.specs.declared.NodeNo.{NodeNo}
use Rattle.number.specs.declared.Place.{Place}

-- "numbered from 1 .. thread 0 does not exist"
abbrev pub thread : ℕ → ThreadNo
thread k = record { 0 = k }

-- "numbered from 1"
abbrev pub node : ℕ → NodeNo
node k = record { 0 = k }

-- "a place in the queue": low, high and slot
abbrev pub place : ℕ → Place
place k = record { 0 = k }

-- "Node 0 is the figure's ⊥"
abbrev pub bottom : NodeNo
bottom = node 0

abbrev pub is_bottom : NodeNo → Bool
is_bottom k = eqb k.0 0

-- the two name the same node
abbrev pub same : NodeNo → NodeNo → Bool
same j k = eqb j.0 k.0

-- the place behind a place
abbrev pub behind : Place → Place
behind p = place (p.0 + 1)

-- "T threads, 1 to 32, numbered from 1. K nodes, 1 to 32, numbered from 1.": the number is 1 to `most`
abbrev pub one_to : ℕ → ℕ → Bool
one_to most number = leb 1 number && leb number most
