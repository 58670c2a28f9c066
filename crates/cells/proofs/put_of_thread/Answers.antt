-- `cells::put_of_thread` meets its contract, by the law of a thread's bytes. Assumes nothing.
use Rattle.cells.specs.Proof.Laws.{thread_leaves}
use Rattle.cells.proofs.put_of_thread.Goals as goal

pub returns : goal.returns
returns c =
    let (has, from, to) = c.requires in
    rw c.thread_place.ensures (thread_leaves _ _ has _ _ from to)
