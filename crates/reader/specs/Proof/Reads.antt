-- A reader of a good schedule, asked again and again: at event i it gives that event and goes to the next one, and at the end it stays. Both laws are by
-- induction on how often it is asked, for every place that it may stand at. Rests on what stands at a place (`schedule`, Theorems). Assumes nothing.
use Rattle.std.specs.Prelude.{true, ◌≡◌, drop, length, take}
use mathlib.Core.List.{List, [], ◌∷◌, ◌++◌}
use Rattle.std.proofs.Math.Logic.{by_cases}
use Rattle.std.proofs.Math.Path.{ap, refl, sym}
use Rattle.std.proofs.Common.{◌∙◌, arith}
use Prim.Native.Nat.{ℕ, zero, suc, ◌+◌, ◌≤◌, ◌<◌, min}
use Rattle.std.proofs.Math.Decide.{ℕ_discrete}
use Rattle.std.proofs.Math.Seq.{drop-length, take-nil}
use Rattle.std.specs.Borrow.{Bor}
use Rattle.events.specs.declared.Event.{Event}
use Rattle.number.specs.Answer.{one_refusal, refused}
use Rattle.number.specs.OneResult.{only}
use Rattle.number.specs.Refused.{done}
use Rattle.number.specs.declared.Refusal.{Refusal}
use Rattle.std.proofs.Common.{Err, None, Ok, Option, Result, Some, true≢false}
use Rattle.schedule.specs.Schedule.{event_at, events_in, events_of, given, good, start_of, stays}
use Rattle.schedule.specs.Theorems.{events_from, given_end, given_event, length_events, length_good}
use Rattle.schedule.specs.Given.{Given}
use Rattle.reader.specs.Reader.{after, answered, asked_times, event_in, events_given, gives, reader_at}
use Rattle.reader.specs.declared.Reader.{Reader}

module _ (s : Bor (List ℕ)) (fine : good s.now ≡ true) where
  abbrev b : List ℕ
  b = s.now

  abbrev many : ℕ
  many = events_in b

  -- the reader at event i, or at the end behind the last one
  abbrev reader : ℕ → Reader
  reader i = reader_at s (start_of i)

  pub end_start : start_of many ≡ length b
  end_start = sym (length_good b fine)

  ends : given b (start_of many) ≡ stays done (start_of many)
  ends = rw end_start (given_end b fine)

  none_left : drop many (events_of b) ≡ []
  none_left = ap (λ (k : ℕ). drop k (events_of b)) (sym (length_events b)) ∙ drop-length (events_of b)

  pub events_read : (n i : ℕ) → i ≤ many → events_given n (reader i) ≡ take n (drop i (events_of b))
  unfolding events_given
  events_read zero i l = refl
  events_read (suc n) i l =
      let onward : Given → List Event = λ g. event_in g ++ events_given n (reader_at s g.place) in
      by_cases (ℕ_discrete i many) (λ e. rw e (ap onward ends ∙ events_read n many (omega arith) ∙ rw none_left (take-nil n))) (λ d.
      let before : i < many = omega (arith, d, l) in
      ap onward (given_event b fine i before)
      ∙ ap (λ (es : List Event). event_at b i ∷ es) (events_read n (i + 1) (omega (arith, before)))
      ∙ sym (ap (take (suc n)) (events_from b i before)))

  pub place_read : (n i : ℕ) → i ≤ many → asked_times n (reader i) ≡ reader (min (i + n) many)
  unfolding asked_times
  place_read zero i l = ap reader (omega (arith, l))
  place_read (suc n) i l =
      let onward : Given → Reader = λ g. asked_times n (reader_at s g.place) in
      by_cases (ℕ_discrete i many) (λ e. rw e (ap onward ends ∙ place_read n many (omega arith) ∙ ap reader (omega arith))) (λ d.
      let before : i < many = omega (arith, d, l) in
      ap onward (given_event b fine i before) ∙ place_read n (i + 1) (omega (arith, before)) ∙ ap reader (omega arith))

-- ---- the code's answer

-- What is given, and the place that the reader is left at, fix the answer that tells it.
answered_lem : (place : ℕ) (a a' : Result (Option Event) Refusal) → answered place a ≡ answered place a' → a ≡ a'
answered_lem place (Ok (Some e)) (Ok (Some e')) h = ap (λ (x : Given). Ok (Some x.event)) h
answered_lem place (Ok (Some e)) (Ok None) h = absurd (true≢false (ap (λ (x : Given). x.found) h))
answered_lem place (Ok (Some e)) (Err r) h = absurd (true≢false (ap (λ (x : Given). x.found) h))
answered_lem place (Ok None) (Ok (Some e)) h = absurd (true≢false (sym (ap (λ (x : Given). x.found) h)))
answered_lem place (Ok None) (Ok None) h = refl
answered_lem place (Ok None) (Err r) h = absurd (refused r (sym (ap (λ (x : Given). x.number) h)))
answered_lem place (Err r) (Ok (Some e)) h = absurd (true≢false (sym (ap (λ (x : Given). x.found) h)))
answered_lem place (Err r) (Ok None) h = absurd (refused r (ap (λ (x : Given). x.number) h))
answered_lem place (Err r) (Err r') h = ap Err (one_refusal r r' (ap (λ (x : Given). x.number) h))

pub next_one_answer : (r : Reader) (a a' : Result (Option Event) Refusal) (q q' : Reader)
    → (answered q.place a ≡ gives r) × (q ≡ after r) → (answered q'.place a' ≡ gives r) × (q' ≡ after r) → (a ≡ a') × (q ≡ q')
next_one_answer r a a' q q' h h' =
    let same : q' ≡ q = only h'.1 h.1 in
    (answered_lem q.place a a' (only h.0 (ap (λ (x : Reader). answered x.place a') (sym same) ∙ h'.0)), sym same)
