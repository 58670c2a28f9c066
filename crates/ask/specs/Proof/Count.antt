-- Counting threads that pass a test: by induction on the number of the last thread that is counted, each of which counts 1 or 0. Assumes nothing.
use Rattle.std.specs.Prelude.{Bool, cond, false, true, List, ◌≢◌, ◌≡◌, length}
use Rattle.std.proofs.Math.Logic.{⊎_elim}
use Rattle.std.proofs.Math.Path.{ap, refl, sym}
use Rattle.std.proofs.Common.{◌∙◌, eq-or-lt_of_le, arith}
use Prim.Native.Nat.{ℕ, zero, suc, ◌+◌, ◌-◌, ◌≤◌, ◌<◌}
use Rattle.lock.specs.Laws.{nth_set_other, nth_set_same}
use Rattle.lock.specs.State.{◌⟨thread◌≔◌⟩, nth, thread_at, zero_thread}
use Rattle.lock.specs.Valid.{Between, Valid}
use Rattle.lock.specs.declared.State.{State}
use Rattle.lock.specs.declared.Thread.{Thread}
use Rattle.number.specs.Numbers.{thread}
use Rattle.number.specs.declared.ThreadNo.{ThreadNo}
use Rattle.ask.specs.Ask.{how_many_threads, how_many_threads_to}

-- ---- a test counts 1 or 0

pub at_most_one : (test : Bool) → cond test 1 0 ≤ 1
at_most_one true = omega arith
at_most_one false = omega arith

counts_nothing : (test : Bool) → ◌≡◌ {A = ℕ} (cond test 1 0) 0 → test ≡ false
counts_nothing true h = absurd (omega arith)
counts_nothing false h = refl

-- ---- threads

-- At most t of the threads 1 to t pass a test.
pub threads_at_most : (t : ℕ) (test : Thread → Bool) (s : State) → how_many_threads_to t test s ≤ t
unfolding how_many_threads_to
threads_at_most zero test s = omega arith
threads_at_most (suc t) test s = omega (arith, threads_at_most t test s, at_most_one (test (thread_at s (thread (suc t)))))

-- Of the threads 1 to t the last adds 1, if it passes, to those before it.
pub one_thread_more : (t : ℕ) (test : Thread → Bool) (s : State) → 1 ≤ t
    → how_many_threads_to t test s ≡ how_many_threads_to (t - 1) test s + cond (test (thread_at s (thread t))) 1 0
unfolding how_many_threads_to
one_thread_more zero test s h = absurd (omega arith)
one_thread_more (suc t) test s h = let e : suc t - 1 ≡ t = omega arith in rw e

-- the numbers 1 to t are among 1 to t + 1, and t + 1 is the last of these
wider : {n t : ℕ} → Between 1 n t → Between 1 n (suc t)
wider b = omega arith

is_last : (t : ℕ) → Between 1 (suc t) (suc t)
is_last t = omega arith

-- a number of 1 to t + 1 is the last, or one of 1 to t
last_or_before : {t : ℕ} (u : ThreadNo) (P : ThreadNo → Type 0) → Between 1 u.0 (suc t) → P (thread (suc t)) → (Between 1 u.0 t → P u) → P u
last_or_before u P b here before =
    ⊎_elim (λ e. rw e here) (λ l. before (record { from = b.from; to = omega arith })) (eq-or-lt_of_le b.to)

-- Tests that agree on the threads 1 to t, in two states, count as many.
pub same_count : (t : ℕ) (test test' : Thread → Bool) (s s' : State)
    → ((u : ThreadNo) → Between 1 u.0 t → test (thread_at s u) ≡ test' (thread_at s' u))
    → how_many_threads_to t test s ≡ how_many_threads_to t test' s'
unfolding how_many_threads_to
same_count zero test test' s s' h = refl
same_count (suc t) test test' s s' h =
    rw (same_count t test test' s s' (λ u b. h u (wider b)), h (thread (suc t)) (is_last t))

-- States with the same T and the same threads count as many.
pub count_alike : (test : Thread → Bool) (s s' : State) → s'.thread ≡ s.thread → s'.shared.threads ≡ s.shared.threads
    → how_many_threads test s' ≡ how_many_threads test s
count_alike test s s' same-threads same_size =
    ap (λ (t : ℕ). how_many_threads_to t test s') same_size
    ∙ same_count s.shared.threads test test s' s (λ u b. ap (λ (xs : List Thread). test (nth xs u.0 zero_thread)) same-threads)

-- If none is counted, none passes.
pub none_passes : (t : ℕ) (test : Thread → Bool) (s : State) → how_many_threads_to t test s ≡ 0
    → (u : ThreadNo) → Between 1 u.0 t → test (thread_at s u) ≡ false
unfolding how_many_threads_to
none_passes zero test s h u b = absurd (omega arith)
none_passes (suc t) test s h u b =
    last_or_before u (λ x. test (thread_at s x) ≡ false) b (counts_nothing (test (thread_at s (thread (suc t)))) (omega arith))
    (none_passes t test s (omega arith) u)

-- If none passes, none is counted.
pub none_counted : (t : ℕ) (test : Thread → Bool) (s : State) → ((u : ThreadNo) → Between 1 u.0 t → test (thread_at s u) ≡ false)
    → how_many_threads_to t test s ≡ 0
unfolding how_many_threads_to
none_counted zero test s h = refl
none_counted (suc t) test s h = rw (none_counted t test s (λ u b. h u (wider b)), h (thread (suc t)) (is_last t))

-- some thread of 1 to t passes
abbrev SomePasses : ℕ → (Thread → Bool) → State → Type 0
SomePasses t test s = (u : ThreadNo) × Between 1 u.0 t × (test (thread_at s u) ≡ true)

-- If some are counted, some thread passes.
pub some_passes : (t : ℕ) (test : Thread → Bool) (s : State) → how_many_threads_to t test s ≢ 0 → SomePasses t test s
unfolding how_many_threads_to
some_passes zero test s h = absurd (h refl)
some_passes (suc t) test s h = look (test (thread_at s (thread (suc t)))) refl (λ e. some_passes t test s (λ z. h (rw (e, z))))
  where
    look : (b : Bool) → test (thread_at s (thread (suc t))) ≡ b
        → (test (thread_at s (thread (suc t))) ≡ false → SomePasses t test s) → SomePasses (suc t) test s
    look true e before = (thread (suc t), is_last t, e)
    look false e before = let (u, b, p) = before e in (u, wider b, p)

-- ---- a thread is stored

-- what a thread counts for
abbrev tally : (Thread → Bool) → Thread → ℕ
tally test v = cond (test v) 1 0

module _ (test : Thread → Bool) (s : State) (t : ThreadNo) (v : Thread) (inside : Between 1 t.0 (length s.thread)) where
  abbrev stored : State
  stored = s ⟨thread t ≔ v ⟩

  -- at every other number nothing changes ..
  elsewhere : (u : ThreadNo) → u.0 ≢ t.0 → tally test (thread_at stored u) ≡ tally test (thread_at s u)
  elsewhere u n = ap (tally test) (nth_set_other s.thread u.0 t.0 v zero_thread n)

  -- .. so that below t as many are counted ..
  stored_below : (m : ℕ) → m < t.0 → how_many_threads_to m test stored ≡ how_many_threads_to m test s
  unfolding how_many_threads_to
  stored_below zero l = refl
  stored_below (suc m) l = omega (arith, stored_below m (omega arith), elsewhere (thread (suc m)) (omega arith))

  -- .. and from t on what stood there is no longer counted, and v is.
  stored_from : (m : ℕ) → t.0 ≤ m → how_many_threads_to m test stored + tally test (thread_at s t) ≡ how_many_threads_to m test s + tally test v
  unfolding how_many_threads_to
  stored_from zero l = absurd (omega arith)
  stored_from (suc m) l =
      ⊎_elim
      (λ e.
      let same : thread (suc m) ≡ t = λ i. record { 0 = sym e i } in
      let there = nth_set_same s.thread t.0 v zero_thread inside.from inside.to in
      let here : tally test (thread_at stored (thread (suc m))) ≡ tally test v = ap (λ u. tally test (thread_at stored u)) same ∙ ap (tally test) there in
      let stood : tally test (thread_at s (thread (suc m))) ≡ tally test (thread_at s t) = ap (λ u. tally test (thread_at s u)) same in
      omega (arith, stored_below m (omega arith)))
      (λ g. omega (arith, stored_from m (omega arith), elsewhere (thread (suc m)) (omega arith)))
      (eq-or-lt_of_le l)

-- In a valid state that is so of all of its threads.
pub count_stored : (test : Thread → Bool) (s : State) (t : ThreadNo) (v : Thread) → Valid s → Between 1 t.0 s.shared.threads
    → how_many_threads test (s ⟨thread t ≔ v ⟩) + tally test (thread_at s t) ≡ how_many_threads test s + tally test v
count_stored test s t v rule b = stored_from test s t v (record { from = b.from; to = omega arith }) s.shared.threads b.to
