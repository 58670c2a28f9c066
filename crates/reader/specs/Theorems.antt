-- What the schedule reader promises: the theorems that a buyer needs, each under a plain sentence. The arguments are in Proof. Assumes nothing.
use Rattle.std.specs.Prelude.{true, Option, Result, List, ◌⊎◌, ◌↔◌, ◌≡◌, ℕ, ◌+◌, ◌≤◌, ◌<◌, length, take}
use Rattle.std.proofs.Common.{ap, ◌∙◌, arith, take_all}
use Rattle.std.specs.Borrow.{Bor}
use Rattle.number.specs.OneResult.{only}
use Rattle.number.specs.Refused.{bad_schedule, done}
use Rattle.number.specs.declared.Refusal.{Refusal}
use Rattle.events.specs.declared.Event.{Event}
use Rattle.reader.specs.Proof.Reads
use Rattle.reader.specs.Reader.{after, answered, asked_times, events_given, gives, reader_at, started}
use Rattle.reader.specs.declared.Reader.{Reader}
use Rattle.schedule.specs.Schedule.{GoodSchedule, NoPlace, event_at, events_in, events_of, given, good, one_event, start_of, stays}
use Rattle.schedule.specs.Theorems.{given_end, given_event, given_one_answer, given_refused, length_events, refused_stays}
use Rattle.schedule.specs.Given.{Given, given_from}

-- ---- a reader of a good schedule s
module _ (s : Bor (List ℕ)) (fine : good s.now ≡ true) where
  -- "gives one event at a time": at event i it gives that event, and goes to the next one's start, or to the end.
  pub reads_event : (i : ℕ) → i < events_in s.now → let r = reader_at s (start_of i) in
      (gives r ≡ one_event (event_at s.now i) (start_of (i + 1))) × (after r ≡ reader_at s (start_of (i + 1)))
  reads_event i l = let e = given_event s.now fine i l in (e, ap (λ (g : Given). reader_at s g.place) e)

  -- "At its end it gives none and stays"
  pub reads_end : let r = reader_at s (length s.now) in (gives r ≡ stays done (length s.now)) × (after r ≡ r)
  reads_end = let e = given_end s.now fine in (e, ap (λ (g : Given). reader_at s g.place) e)

  -- From the first event on, asked n times it gives the first n events, in their order ..
  pub reads_first : (n : ℕ) → events_given n (started s) ≡ take n (events_of s.now)
  reads_first n = Reads.events_read s fine n 0 (omega arith)

  -- .. so that asked often enough it gives every event once, and nothing else ..
  pub reads_all : (n : ℕ) → events_in s.now ≤ n → events_given n (started s) ≡ events_of s.now
  reads_all n l = reads_first n ∙ take_all n (events_of s.now) (omega (arith, l, length_events s.now))

  -- .. and it then stands at the end, with its own schedule.
  pub reads_to_end : (n : ℕ) → events_in s.now ≤ n → asked_times n (started s) ≡ reader_at s (length s.now)
  reads_to_end n l =
      Reads.place_read s fine n 0 (omega arith) ∙ ap (λ (i : ℕ). reader_at s (start_of i)) (omega (arith, l)) ∙ ap (reader_at s) (Reads.end_start s fine)

-- ---- refusal 2

-- "a bad schedule, or a place that is neither an event's start nor the end, gives 2", and nothing else does ..
pub reads_refused : (r : Reader) → ((gives r).number ≡ bad_schedule) ↔ ((¬ GoodSchedule r.schedule.now) ⊎ NoPlace r.schedule.now r.place)
reads_refused r = given_refused r.schedule.now r.place

-- .. "and stays", with no event.
pub refused_reader_stays : (r : Reader) → (gives r).number ≡ bad_schedule → (gives r ≡ stays bad_schedule r.place) × (after r ≡ r)
refused_reader_stays r h =
    let e = refused_stays r.schedule.now r.place h in
    (e, ap (λ (g : Given). reader_at r.schedule g.place) e)

-- ---- no second result fits

-- the promise of `start`
pub start_one_result : (s : Bor (List ℕ)) (r r' : Reader) → r ≡ started s → r' ≡ started s → r ≡ r'
start_one_result s r r' = only

-- the promise of `next`: what is given, and the reader afterwards
pub next_one_result : (r : Reader) (g g' : Given) (q q' : Reader)
    → (g ≡ gives r) × (q ≡ after r) → (g' ≡ gives r) × (q' ≡ after r) → (g ≡ g') × (q ≡ q')
next_one_result r g g' q q' h h' = (only h.0 h'.0, only h.1 h'.1)

-- the promise of `next_from`
pub next_from_one_result : (b : List ℕ) (place : ℕ) (g g' : Given) → g ≡ given b place → g' ≡ given b place → g ≡ g'
next_from_one_result b place g g' = only

-- .. and no second answer of the code fits: neither to `next` ..
pub next_one_answer : (r : Reader) (a a' : Result (Option Event) Refusal) (q q' : Reader)
    → (answered q.place a ≡ gives r) × (q ≡ after r) → (answered q'.place a' ≡ gives r) × (q' ≡ after r) → (a ≡ a') × (q ≡ q')
next_one_answer = Reads.next_one_answer

-- .. nor to `next_from`.
pub next_from_one_answer : (b : List ℕ) (place : ℕ) (a a' : Result (Option (Event × ℕ)) Refusal)
    → given_from place a ≡ given b place → given_from place a' ≡ given b place → a ≡ a'
next_from_one_answer = given_one_answer
