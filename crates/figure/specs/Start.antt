-- A fresh state of document 01 is an initial state of Figure 1. Rests on what stands at a number of a fresh state's table (Laws, crate `lock`).
-- Assumes nothing.
use Rattle.std.specs.Prelude.{◌≡◌, refl, ℕ, ◌-◌, ◌≤◌}
use Rattle.std.proofs.Common.{ap}
use Rattle.figure.specs.Figure.{Initially}
use Rattle.lock.specs.Fresh.{fresh_state, idle, idle_to}
use Rattle.lock.specs.Laws.{nth_front}
use Rattle.lock.specs.State.{table_size, thread_at, zero_thread}
use Rattle.lock.specs.declared.Thread.{Thread}
use Rattle.number.specs.declared.ThreadNo.{ThreadNo}
use Rattle.word.specs.Laws.{in_none}

module _ (T K : ℕ) where
  -- each of the first T threads is idle
  its_thread : (q : ThreadNo) → 1 ≤ q.0 → q.0 ≤ T → thread_at (fresh_state T K) q ≡ idle
  unfolding idle_to
  its_thread q a b = nth_front idle zero_thread T (table_size - T) q.0 a b

  pub fresh_initially : Initially (fresh_state T K)
  fresh_initially = record {
    raised = refl;
    no_tail = refl;
    none_used = in_none;
    lowest = refl;
    highest = refl;
    idle = λ q a b. ap (λ (v : Thread). v.line) (its_thread q a b);
    no_slot = λ q a b. ap (λ (v : Thread). v.slot) (its_thread q a b);
  }
