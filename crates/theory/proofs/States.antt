-- What a reached state has, in the words of document 01: the statements of demand 3 about a state. Whether an event is accepted is asked of the step's
-- conditions (`accepted_exactly`, `exactly_when`), none of which is about how the step is made. Rests on Reached, Shape/Goes and the theorems of the
-- crates `machine` and `ask`. Assumes nothing.
use Rattle.std.specs.Prelude.{Bool, false, true, ◌||◌, List, [], ◌∷◌, ◌≢◌, ◌⊎◌, ◌≡◌, refl, ℕ, ◌≤◌, T, eqb}
use Rattle.std.proofs.Common.{true≢false, ⊎_elim, ap, subst, sym, ◌∙◌, arith, eqb-true}
use Rattle.std.proofs.Math.Logic.{by_cases}
use Rattle.std.proofs.Math.Decide.{dec_le, ℕ_discrete}
use Rattle.ask.specs.Meaning.{Free}
use Rattle.ask.specs.Theorems.{status_exactly}
use Rattle.ask.specs.Asked.{Asked}
use Rattle.figure.specs.Figure.{high, line, local, low, my, prev, succ}
use Rattle.lock.specs.Laws.{nth_none}
use Rattle.lock.specs.State.{thread_at, zero_thread}
use Rattle.lock.specs.Valid.{Between}
use Rattle.lock.specs.declared.State.{State}
use Rattle.lock.specs.declared.Thread.{Thread}
use Rattle.number.specs.FirstThat.{first_has}
use Rattle.number.specs.Numbers.{bottom, thread}
use Rattle.number.specs.Refused.{done}
use Rattle.number.specs.Sizes.{last_place}
use Rattle.number.specs.declared.NodeNo.{NodeNo}
use Rattle.number.specs.declared.Place.{Place}
use Rattle.number.specs.declared.ThreadNo.{ThreadNo}
use Rattle.machine.specs.Conditions.{Follows, Waits, among, conditions, follow_my}
use Rattle.machine.specs.Conditions.Follows.{my_at, prev_at, succ_at}
use Rattle.machine.specs.Conditions.Waits.{at16, at19, at23}
use Rattle.machine.specs.Step.{step}
use Rattle.machine.specs.Theorems.{accepted_exactly, exactly_when}
use Rattle.theory.specs.Demands.{Busy, EnteredCount, FreeExactly, Is9To11, OneHolds, OneInside, SomeCanStep}
use Rattle.theory.specs.Proof.Look.{seen_at, seen_off, seen_within, threads_of}
use Rattle.theory.specs.Proof.Reached.{Reached}
use Rattle.theory.specs.Queue.Stored.{memory_of}
use Rattle.theory.specs.Queue.AtLines.{In}
use Rattle.theory.specs.Queue.Counts.{exchange_room, leave_room}
use Rattle.theory.specs.Queue.Seen.{Seen}
use Rattle.theory.specs.Queue.View.{is_used, locked_in, next_in, threads_in}
use Rattle.theory.specs.Shape.Goes.{Able, Used, empty_free, free_empty, my_used, one_inside as one-is-inside, prev_used, progress, succ_used}
use Rattle.theory.specs.Queue.Memory.{Memory}
use Rattle.theory.specs.Shape.Shape.{Shape}
use Rattle.word.specs.Word.{in_use}

-- ---- numbers that name the same
same_thread : {t u : ThreadNo} → t.0 ≡ u.0 → t ≡ u
same_thread e = λ i. record { 0 = e i }

same_place : {j k : Place} → j.0 ≡ k.0 → j ≡ k
same_place e = λ i. record { 0 = e i }

-- ---- what holds of each number of a list holds of a number among them
abbrev All : (ℕ → Type 0) → List ℕ → Type 0
All P [] = Unit {0}
All P (j ∷ js) = P j × All P js

of_among : (P : ℕ → Type 0) (l : ℕ) (js : List ℕ) → All P js → T (among l js) → P l
of_among P l [] all h = absurd h
of_among P l (j ∷ js) all h = go (eqb l j) refl h (of_among P l js all.1)
  where
    go : (b : Bool) → eqb l j ≡ b → T (b || among l js) → (T (among l js) → P l) → P l
    go true e h later = subst P (sym (eqb-true l j e)) all.0
    go false e h later = later h

module _ {s : State} {exchanged passed : List ThreadNo} (r : Reached s exchanged passed) where
  abbrev m : Memory
  m = memory_of r.base s r.owner r.taker

  abbrev th : ℕ → Seen
  th = threads_of r.base s

  shape : Shape m th
  shape = r.kept.0

  -- Never do two threads hold the lock ..
  pub one_holds : OneHolds s
  one_holds t u a b =
      let x = seen_within r.base s t 20 29 (λ _. omega arith) (λ _. omega arith) (a.from, a.to) in
      let y = seen_within r.base s u 20 29 (λ _. omega arith) (λ _. omega arith) (b.from, b.to) in
      same_thread (one-is-inside shape t.0 u.0 x y)

  -- .. so never do two stand at the critical section.
  pub one_inside : OneInside s
  one_inside t u a b = one_holds t u (omega arith) (omega arith)

  -- ---- the nodes that a line follows

  -- k is no ⊥, and in use
  abbrev InUse : NodeNo → Type 0
  InUse k = (k.0 ≢ 0) × (in_use (local s) k ≡ true)

  used : (k : NodeNo) → Used m k.0 → InUse k
  used k h = ((λ e. omega (arith, h.some)), is_used (local s) k h.used)

  pub followed_used : (t : ThreadNo) (k : NodeNo) → Follows (thread_at s t) k → InUse k
  unfolding threads_in
  followed_used t k (my_at h e) = rw e (used (my s t) (my_used shape t.0 (seen_within r.base s t 12 26 (λ _. omega arith) (λ _. omega arith)
      (of_among (In 12 26) (line s t) follow_my (omega arith) h))))
  followed_used t k (prev_at h e) = rw e (used (prev s t) (prev_used shape t.0 (seen_at r.base s t 18 h)))
  followed_used t k (succ_at h some e) = rw e (used (succ s t) (succ_used shape t.0 (seen_at r.base s t 29 h) some))

  -- ---- the places

  -- a thread at a line is one of 1 to T
  somebody : (t : ThreadNo) → 1 ≤ line s t → Between 1 t.0 s.shared.threads
  somebody t h = record {
    from = by_cases (ℕ_discrete t.0 0)
        (λ zero. absurd (omega (arith, ap (λ (v : Thread). v.line) (nth_none s.thread t.0 zero_thread zero))))
        (λ some. omega arith);
    to = by_cases (dec_le t.0 s.shared.threads) (λ within. within)
        (λ past. absurd (omega (arith, ap (λ (v : Thread). v.line) (r.valid.past_threads t (omega arith)))));
  }

  -- entered has counted every place, so high at 14 and low at 29 are below 1,000,001
  pub room : (t : ThreadNo) → ((line s t ≡ 14) × ((high s).0 ≡ last_place)) ⊎ ((line s t ≡ 29) × ((low s).0 ≡ last_place)) → ⊥
  room t =
      ⊎_elim
      (λ h. omega (arith, exchange_room r.counts t (somebody t (omega arith)) (rw h.0), r.valid.shared.entered))
      (λ h. omega (arith, leave_room r.counts t (somebody t (omega arith)) (rw h.0), r.valid.shared.entered))

  -- ---- 9, 10 and 11 never occur: their conditions never apply

  followed_some : (t : ThreadNo) → (k : NodeNo) × Follows (thread_at s t) k × (k.0 ≡ 0) → ⊥
  followed_some t (k, f, z) = (followed_used t k f).0 z

  followed_in_use : (t : ThreadNo) → (k : NodeNo) × Follows (thread_at s t) k × (in_use (local s) k ≡ false) → ⊥
  followed_in_use t (k, f, z) = true≢false (sym (followed_used t k f).1 ∙ z)

  pub never : (t : ThreadNo) (n : NodeNo) → ¬ Is9To11 (step s t n).answer
  never t n =
      first_has (λ (m : ℕ). ¬ Is9To11 m) (conditions s t n) (step s t n).answer (
        (λ a h. omega arith),
        (
          (λ a h. omega arith),
          (
            (λ a h. omega arith),
            (
              (λ a h. omega arith),
              (
                (λ a h. omega arith),
                ((λ a h. followed_some t a), ((λ a h. followed_in_use t a), ((λ a h. room t a), ((λ a h. omega arith), λ h. omega arith)))),
              ),
            ),
          ),
        ),
      ) ((exactly_when s t n r.valid.sized (step s t n).answer).0 refl)

  -- ---- If some thread has left its idle line, some such thread can step.

  -- a thread that is able to go on does not wait
  waits_not : (t : ThreadNo) → Able m (th t.0) → Waits s t → ⊥
  unfolding threads_in next_in locked_in
  waits_not t able (at16 e f) = f (able.flag (seen_at r.base s t 16 e))
  waits_not t able (at19 e f) = f (able.unlocked (seen_at r.base s t 19 e))
  waits_not t able (at23 e f) = able.linked (seen_at r.base s t 23 e) f

  -- so its event is accepted: no condition applies
  able_accepted : (t : ThreadNo) → Busy s t → Able m (th t.0) → (step s t bottom).answer ≡ done
  able_accepted t busy able =
      (accepted_exactly s t bottom r.valid.sized).1 (
        (λ h. h r.valid),
        (
          (λ h. h busy.exists),
          (
            ⊎_elim (λ h. busy.off h.0) (λ h. h.1 refl),
            (
              (λ h. busy.off h.0),
              ((λ h. busy.off h.0), (followed_some t, (followed_in_use t, (room t, (waits_not t able, tt))))),
            ),
          ),
        ),
      )

  abbrev Goes : Type 0
  Goes = (u : ThreadNo) × Busy s u × ((step s u bottom).answer ≡ done)

  able_goes : (q : ℕ) → Able m (th q) → Goes
  able_goes q able =
      let off = seen_off r.base s (thread q) able.off in
      let busy : Busy s (thread q) = record { exists = somebody (thread q) (omega arith); off = λ e. omega arith } in
      (thread q, busy, able_accepted (thread q) busy able)

  pub some_can_step : SomeCanStep step s
  some_can_step t busy = goes (progress shape t.0 seen)
    where
      goes : (q : ℕ) × Able m (th q) → Goes
      goes (q, able) = able_goes q able

      line_from : 12 ≤ line s t
      line_from = omega (arith, (r.valid.thread t busy.exists.from busy.exists.to).line, busy.off)

      seen : 12 ≤ (th t.0).line
      seen = (seen_within r.base s t 12 29 (λ _. omega arith) (λ _. omega arith)
          (line_from, (r.valid.thread t busy.exists.from busy.exists.to).line.to)).0

  -- ---- entered = high - 1 + the number of threads at lines 12 to 14
  pub entered_count : EnteredCount s
  entered_count = omega (arith, r.counts.entries, r.valid.shared.high)

  -- ---- free holds exactly when low = high

  free_low : Free s → low s ≡ high s
  free_low h = let e = free_empty shape h.0 h.1 in same_place (omega arith)

  low_free : low s ≡ high s → Free s
  low_free e = let same = ap (λ (k : Place). k.0) e in empty_free shape (omega arith)

  pub free_exactly : FreeExactly s
  free_exactly =
      let asked = status_exactly s r.valid in (
        (λ h. free_low (asked.1.is_free_lem.0 (ap (λ (a : Asked). a.value) h))),
        (λ e. let value = asked.1.is_free_lem.1 (low_free e) in λ i. record { number = asked.0 i; value = value i }),
      )
