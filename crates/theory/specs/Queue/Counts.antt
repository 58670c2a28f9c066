-- Counts. A thread chooses its node and goes to line a, exchanges the tail at line b, and is in the queue then up to line c. Every choice is counted by
-- entered, every exchange by high, every leaving by low: so entered is high - 1 plus the number of threads at a to b, and high is low plus the number of
-- threads behind b up to c. For any machine: the lines are parameters. A step changes one thread and some of the three numbers, and it keeps the counts if it
-- is balanced. From the counts follows that places remain where a thread exchanges or leaves. Assumes nothing.
use Rattle.std.specs.Prelude.{Bool, cond, true, ◌&&◌, ◌≡◌, ℕ, suc, ◌+◌, ◌≤◌, leb}
use Rattle.std.proofs.Common.{true≢false, sym, ◌∙◌, arith}
use Rattle.std.proofs.Math.Logic.{by_cases}
use Rattle.std.proofs.Math.Decide.{ℕ_discrete}
use Rattle.ask.specs.Ask.{how_many_threads}
use Rattle.ask.specs.Theorems.{count_alike, count_none, count_stored}
use Rattle.figure.specs.Figure.{entered, high, line, low}
use Rattle.lock.specs.State.{◌⟨thread◌≔◌⟩, set_nth, thread_at}
use Rattle.lock.specs.Valid.{Between, Valid}
use Rattle.lock.specs.declared.Shared.{Shared}
use Rattle.lock.specs.declared.State.{State}
use Rattle.lock.specs.declared.Thread.{Thread}
use Rattle.number.specs.declared.ThreadNo.{ThreadNo}

-- the line is one of a to b
abbrev pub is_in : ℕ → ℕ → ℕ → Bool
is_in a b l = leb a l && leb l b

-- a thread at a line of a to b
abbrev pub is_at : ℕ → ℕ → Thread → Bool
is_at a b v = is_in a b v.line

-- what entered and high come to
pub record Counts (a b c : ℕ) (s : State) : Type 0 where
  pub entries : entered s + 1 ≡ (high s).0 + how_many_threads (is_at a b) s
  pub places : (high s).0 ≡ (low s).0 + how_many_threads (is_at (suc b) c) s

-- what a line counts for: 1 where it is one of a to b
abbrev pub counts_for : ℕ → ℕ → ℕ → ℕ
counts_for a b l = cond (is_in a b l) 1 0

-- a step from line l to line n, with these shared numbers before and after, is balanced
pub record Balance (a b c l n : ℕ) (sh sh' : Shared) : Type 0 where
  pub threads : sh'.threads ≡ sh.threads
  pub entries : sh'.entered + sh.high.0 + counts_for a b l ≡ sh.entered + sh'.high.0 + counts_for a b n
  pub places : sh'.high.0 + sh.low.0 + counts_for (suc b) c l ≡ sh.high.0 + sh'.low.0 + counts_for (suc b) c n

module _ (a b c : ℕ) (s s' : State) (p : ThreadNo) (w : Thread) (rule : Valid s) (exists : Between 1 p.0 s.shared.threads) where
  -- how many pass a test after thread p is w
  counted : (test : Thread → Bool) → s'.shared.threads ≡ s.shared.threads → s'.thread ≡ set_nth s.thread p.0 w
      → how_many_threads test s' + cond (test (thread_at s p)) 1 0 ≡ how_many_threads test s + cond (test w) 1 0
  counted test size stored =
      let stored-alike = count_alike test (s ⟨thread p ≔ w ⟩) s' stored size in
      omega (arith, count_stored test s p w rule exists)

  pub counts_kept : Balance a b c (line s p) w.line s.shared s'.shared → s'.thread ≡ set_nth s.thread p.0 w
      → Counts a b c s → Counts a b c s'
  counts_kept even stored h = record {
    entries = omega (arith, h.entries, even.entries, counted (is_at a b) even.threads stored);
    places = omega (arith, h.places, even.places, counted (is_at (suc b) c) even.threads stored);
  }

-- ---- what follows where thread t is at some line
module _ {a b c : ℕ} {s : State} (h : Counts a b c s) (t : ThreadNo) (exists : Between 1 t.0 s.shared.threads) where
  -- a thread that passes a test is counted
  counts_it : (test : Thread → Bool) → test (thread_at s t) ≡ true → 1 ≤ how_many_threads test s
  counts_it test passes =
      by_cases (ℕ_discrete (how_many_threads test s) 0)
      (λ none. absurd (true≢false (sym passes ∙ (count_none test s).0 none t exists)))
      (λ some. omega arith)

  -- before the exchange high has not come further than entered
  pub exchange_room : is_at a b (thread_at s t) ≡ true → (high s).0 ≤ entered s
  exchange_room early = omega (arith, h.entries, counts_it (is_at a b) early)

  -- while a thread is in the queue low is below high, and high is at most entered + 1
  pub leave_room : is_at (suc b) c (thread_at s t) ≡ true → (low s).0 ≤ entered s
  leave_room queued = omega (arith, h.entries, h.places, counts_it (is_at (suc b) c) queued)
