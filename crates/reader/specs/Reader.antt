-- The schedule reader. Document 01: "A schedule reader keeps its schedule and its place, and gives one event at a time."
-- What stands at a place of a schedule is `given` (crate `schedule`). Assumes nothing.
use Rattle.std.specs.Prelude.{cond, List, [], ◌∷◌, ◌++◌, ℕ, zero, suc, Option, None, Some, Result, Err, Ok}
use Rattle.std.specs.Borrow.{Bor}
use Rattle.events.specs.declared.Event.{Event}
use Rattle.number.specs.declared.Refusal.{Refusal}
use Rattle.schedule.specs.Schedule.{given, start_of}
use Rattle.schedule.specs.Given.{Given, given_from}
use Rattle.reader.specs.declared.Reader.{Reader}

-- "keeps its schedule and its place": the caller's own bytes, where they stand, and a place in them
abbrev pub reader_at : Bor (List ℕ) → ℕ → Reader
reader_at schedule place = record { schedule = schedule; place = place }

-- a reader at the first event's start
abbrev pub started : Bor (List ℕ) → Reader
started schedule = reader_at schedule (start_of 0)

-- "gives one event at a time": what the reader gives when it is asked ..
abbrev pub gives : Reader → Given
gives r = given r.schedule.now r.place

-- .. and the reader after that: the very same schedule, and the place that was given
abbrev pub after : Reader → Reader
after r = reader_at r.schedule (gives r).place

-- what is given where the code answers so and the reader then stands at a place: an event, with that place to go on from; none, at the end; or a refusal
abbrev pub answered : ℕ → Result (Option Event) Refusal → Given
answered place (Ok (Some e)) = given_from place (Ok (Some (e, place)))
answered place (Ok None) = given_from place (Ok None)
answered place (Err refusal) = given_from place (Err refusal)

-- ---- asked again and again

-- the reader after it was asked n times
unfoldable pub asked_times : ℕ → Reader → Reader
asked_times zero r = r
asked_times (suc n) r = asked_times n (after r)

-- the event that the reader gives, if it gives one
abbrev pub event_in : Given → List Event
event_in g = cond g.found (g.event ∷ []) []

-- the events that the reader gives when it is asked n times, in their order
unfoldable pub events_given : ℕ → Reader → List Event
events_given zero r = []
events_given (suc n) r = event_in (gives r) ++ events_given n (after r)
