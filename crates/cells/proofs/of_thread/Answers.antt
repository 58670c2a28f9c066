-- `cells::of_thread` meets its contract, by the law of a thread's bytes. Assumes nothing.
use Rattle.cells.specs.Proof.Laws.{thread_shows}
use Rattle.cells.proofs.of_thread.Goals as goal

pub returns : goal.returns
returns c = rw c.thread_place.ensures (thread_shows _ _ c.requires.0 _ c.requires.1)
