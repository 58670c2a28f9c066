-- `follows::link_prev` meets its contract: where nothing stops the event, the followed node has a record. Assumes nothing.
use Rattle.refusals.specs.Arms.{has_followed}
use Rattle.follows.proofs.link_prev.Goals as goal

pub set_next-requires : goal.set_next-requires
set_next-requires c = has_followed c.requires.0 c.in_ok-k.ensures c.requires.1
