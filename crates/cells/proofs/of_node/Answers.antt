-- `cells::of_node` meets its contract, by the law of a node's bytes. Assumes nothing.
use Rattle.cells.specs.Proof.Laws.{node_shows}
use Rattle.cells.proofs.of_node.Goals as goal

pub returns : goal.returns
returns c = rw c.node_place.ensures (node_shows _ _ c.requires.0 _ c.requires.1)
