-- `cells::of_header` meets its contract: a byte of the header stands where it stands in the whole. Assumes nothing.
use Rattle.cells.specs.Proof.Laws.{header_shows}
use Rattle.cells.proofs.of_header.Goals as goal

pub returns : goal.returns
returns c = header_shows _ _ c.requires.1
