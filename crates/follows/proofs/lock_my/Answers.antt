-- `follows::lock_my` meets its contract: where nothing stops the event, the followed node has a record. Assumes nothing.
use Rattle.refusals.specs.Arms.{has_followed}
use Rattle.follows.proofs.lock_my.Goals as goal

pub set_locked-requires : goal.set_locked-requires
set_locked-requires c = has_followed c.requires.0 c.in_ok-k.ensures c.requires.1
