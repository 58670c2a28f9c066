-- `cells::four_of_header` meets its contract, by the law of a number of four bytes. Assumes nothing.
use Rattle.cells.specs.Proof.Laws.{four_shows}
use Rattle.cells.proofs.four_of_header.Goals as goal

pub returns : goal.returns
returns c = rw c.four_at.ensures (four_shows _ _ c.requires.1)
