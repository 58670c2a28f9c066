-- `follows::read_next` meets its contract: where nothing stops the event, the followed node has a record. Assumes nothing.
use Rattle.refusals.specs.Arms.{has_followed}
use Rattle.follows.proofs.read_next.Goals as goal

pub next-next-requires : goal.next-next-requires
next-next-requires c = has_followed c.requires.0 c.in_ok-k.ensures c.requires.1
