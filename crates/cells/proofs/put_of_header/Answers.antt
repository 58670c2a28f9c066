-- `cells::put_of_header` meets its contract, by the law of the header. Assumes nothing.
use Rattle.cells.specs.Proof.Laws.{header_leaves}
use Rattle.cells.proofs.put_of_header.Goals as goal

pub returns : goal.returns
returns c = header_leaves _ _ _ c.requires.1 c.requires.2
