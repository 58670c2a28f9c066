-- `cells::put_of_node` meets its contract, by the law of a node's bytes. Assumes nothing.
use Rattle.cells.specs.Proof.Laws.{node_leaves}
use Rattle.cells.proofs.put_of_node.Goals as goal

pub returns : goal.returns
returns c =
    let (has, from, to) = c.requires in
    rw c.node_place.ensures (node_leaves _ _ has _ _ from to)
