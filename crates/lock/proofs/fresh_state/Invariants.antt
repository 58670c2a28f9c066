-- The loop of `lock::fresh_state`: after i turns the table has i idle threads, and 0 in every place past them. Assumes nothing.
use Rattle.std.proofs.Common.{◌≡◌}
use Rattle.lock.specs.Fresh.{idle_to}
use Rattle.lock.proofs.fresh_state.Given as goal

abbrev pub invariant-loop-i : goal.invariant-loop-i
invariant-loop-i l = l.thread ≡ idle_to l.i
