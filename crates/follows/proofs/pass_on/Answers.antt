-- `follows::pass_on` meets its contract: the followed node has a record, if it is not 0. Assumes nothing.
use Rattle.refusals.specs.Arms.{has_some}
use Rattle.follows.proofs.pass_on.Goals as goal

pub free-requires : goal.free-requires
free-requires c = (c.requires.has.laid, has_some c.requires c.in_ok-k.ensures)
