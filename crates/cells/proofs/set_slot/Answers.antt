-- `cells::set_slot` meets its contract, by the law of a thread's bytes. Assumes nothing.
use Rattle.cells.specs.Proof.Laws.{slot_leaves}
use Rattle.cells.proofs.set_slot.Goals as goal

pub returns : goal.returns
returns c = rw (c.put_four.ensures, c.thread_place-at.ensures) (slot_leaves _ _ c.requires c.args.x)
