-- What every state reached from a fresh lock has, beside the lists of the exchanges and passages made on the way; a fresh state has it. That every event keeps
-- it is in proofs/Reaches. Rests on Shape and Shape/Start. Assumes nothing.
use Rattle.std.specs.Prelude.{false, List, [], ◌≡◌}
use Rattle.std.proofs.Math.Logic.{by_cases}
use Rattle.std.proofs.Math.Path.{ap, refl}
use Prim.Native.Nat.{ℕ, zero, suc, ◌-◌, ◌≤◌}
use Rattle.std.proofs.Math.Decide.{dec_le}
use Rattle.std.proofs.Common.{arith}
use Rattle.std.proofs.lemmas.Bool.{lt-leb}
use Rattle.ask.specs.Theorems.{count_none}
use Rattle.lock.specs.Fresh.{fresh_state, idle, idle_to}
use Rattle.lock.specs.Judged.{rule_size}
use Rattle.lock.specs.Laws.{nth_after_front, nth_front}
use Rattle.lock.specs.State.{nth, table_size, thread_at, zero_node, zero_thread}
use Rattle.lock.specs.Theorems.{fresh_valid}
use Rattle.lock.specs.Valid.{Between, Valid}
use Rattle.lock.specs.declared.Node.{Node}
use Rattle.lock.specs.declared.State.{State}
use Rattle.lock.specs.declared.Thread.{Thread}
use Rattle.number.specs.Sizes.{most_nodes, most_threads}
use Rattle.number.specs.declared.ThreadNo.{ThreadNo}
use Rattle.theory.specs.Proof.Look.{look, threads_of}
use Rattle.theory.specs.Queue.Counts.{Counts}
use Rattle.theory.specs.Queue.Memory.{Memory}
use Rattle.theory.specs.Queue.Seen.{Seen}
use Rattle.theory.specs.Shape.Shape.{Ordered, Shape}
use Rattle.theory.specs.Queue.Stored.{Of}
use Rattle.theory.specs.Queue.Counts.{is_at}
use Rattle.theory.specs.Queue.View.{locked_in, next_in, threads_in, used_none, used_in}
use Rattle.theory.specs.Shape.Start.{order_start, shape_start}

-- what is kept: the shape of the queue, and the order of exchanges and passages
abbrev pub Kept : List ThreadNo → List ThreadNo → Memory → (ℕ → Seen) → Type 0
Kept exchanged passed m th = Shape m th × Ordered th m.taker m.low m.high exchanged passed

-- the counts, by the lines of this machine: at 12 the node is chosen, 14 is the exchange, and 29 the last line of the queue
abbrev pub Tallied : State → Type 0
Tallied s = Counts 12 14 29 s

-- A state, and the threads that have exchanged and passed on the way to it. Who owns which node, who took which place, and how many places were counted
-- before the state's own first, is given by functions and a number that no statement names.
pub record Reached (s : State) (exchanged passed : List ThreadNo) : Type 0 where
  pub valid : Valid s
  pub base : ℕ
  pub owner : ℕ → ℕ
  pub taker : ℕ → ℕ
  pub kept : Of look base (Kept exchanged passed) owner taker s
  pub counts : Tallied s

-- ---- a fresh lock
module _ (T K : ℕ) (threads : Between 1 T most_threads) (nodes : Between 1 K most_nodes) where
  abbrev start : State
  start = fresh_state T K

  start_valid : Valid start
  start_valid = fresh_valid T K (rule_size T K threads nodes)

  -- every number has an idle thread, or none
  idle_or_none : (P : Thread → Type 0) → P idle → P zero_thread → (q : ℕ) → P (nth (idle_to T) q zero_thread)
  unfolding idle_to
  idle_or_none P a b zero = b
  idle_or_none P a b (suc q) =
      by_cases (dec_le (suc q) T)
      (λ h. rw (nth_front idle zero_thread T (table_size - T) (suc q) (omega arith) h) a)
      (λ h. rw (nth_after_front idle zero_thread T (table_size - T) (suc q) (omega arith)) b)

  start_line : (q : ℕ) → (threads_of 0 start q).line ≤ 11
  unfolding threads_in
  start_line = idle_or_none (λ (v : Thread). look v ≤ 11) (omega arith) (omega arith)

  start_unlocked : (k : ℕ) → locked_in start.node k ≡ 0
  unfolding locked_in
  start_unlocked zero = refl
  start_unlocked (suc k) = ap (λ (x : Node). x.locked) (nth_after_front zero_node zero_node 0 table_size (suc k) (omega arith))

  -- no thread is at a line from 12 on
  none_at : (a b : ℕ) → 12 ≤ a → (t : ThreadNo) → is_at a b (thread_at start t) ≡ false
  none_at a b h t = idle_or_none (λ (v : Thread). is_at a b v ≡ false) (rw (lt-leb a 11 (omega arith))) (rw (lt-leb a 0 (omega arith))) t.0

  pub start_reached : Reached start [] []
  start_reached = record {
    valid = start_valid;
    base = 0;
    owner = λ _. 0;
    taker = λ _. 0;
    kept = (
      shape_start (threads_of 0 start) (used_in 0) (next_in start.node) (locked_in start.node) start_line used_none start_unlocked,
      order_start (threads_of 0 start) start_line,
    );
    counts = record {
      entries = omega (arith, (count_none (is_at 12 14) start).1 (λ t b. none_at 12 14 (omega arith) t));
      places = omega (arith, (count_none (is_at 15 29) start).1 (λ t b. none_at 15 29 (omega arith) t));
    };
  }
