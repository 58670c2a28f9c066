-- The events of any bytes, good or not: how many they are, and what stands at a number. By what `rows` says of a record at its place. Assumes nothing.
use Rattle.std.specs.Prelude.{List, ◌∷◌, ◌≡◌, ℕ, ◌+◌, ◌*◌, ◌≤◌, ◌<◌, drop, get_or, length}
use Rattle.std.proofs.Common.{◌∙◌, add-one, drop-cons, drop-drop}
use Rattle.std.proofs.Math.ListN.{get_or-eq_default}
use Rattle.std.proofs.Math.Seq.{get_or-drop}
use Rattle.events.specs.Events.{event}
use Rattle.rows.specs.Loops.{length_values}
use Rattle.rows.specs.Places.{value_at}
use Rattle.schedule.specs.Schedule.{event_at, event_record, events_in, events_of, no_event, start_of, width}

module _ (b : List ℕ) where
  pub length_events : length (events_of b) ≡ events_in b
  unfolding events_of
  length_events = length_values event_record (events_in b) (drop width b)

  -- Record i behind the heading stands at event i's start.
  pub at_start : (i : ℕ) → drop (width * i) (drop width b) ≡ drop (start_of i) b
  at_start i = drop-drop (width * i) width b

  pub event_there : (i : ℕ) → i < events_in b → event_at b i ≡ event (get_or b (start_of i + 2) 0) (get_or b (start_of i + 3) 0)
  unfolding events_of
  event_there i l =
      value_at event_record (events_in b) i (drop width b) no_event l
      ∙ rw (at_start i, get_or-drop (start_of i) b 2 0, get_or-drop (start_of i) b 3 0)

  pub event_none : (i : ℕ) → events_in b ≤ i → event_at b i ≡ no_event
  event_none i l = get_or-eq_default (events_of b) no_event (rw length_events l)

  pub events_from : (i : ℕ) → i < events_in b → drop i (events_of b) ≡ event_at b i ∷ drop (i + 1) (events_of b)
  events_from i l = rw (add-one i) (drop-cons (events_of b) i no_event (rw length_events l))
