-- `cells::put_four_of_header` meets its contract, by the law of the header. Assumes nothing.
use Rattle.std.proofs.Common.{rules}
use Rattle.cells.specs.Proof.Laws.{four_leaves}
use Rattle.cells.proofs.put_four_of_header.Goals as goal

pub returns : goal.returns
returns c = rw c.put_four.ensures (four_leaves _ _ c.args.n c.requires.1 (search rules))
