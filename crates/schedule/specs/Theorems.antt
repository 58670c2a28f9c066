-- What the promises about schedules come to, each under a plain sentence. The arguments are in Proof. Assumes nothing.
use Rattle.std.specs.Prelude.{Bool, false, true, Option, Result, List, [], ◌∷◌, ◌⊎◌, ◌↔◌, ◌≡◌, ℕ, ◌+◌, ◌*◌, ◌≤◌, ◌<◌, drop, get_or, length}
use Rattle.events.specs.Events.{event}
use Rattle.events.specs.declared.Event.{Event}
use Rattle.lock.specs.Fresh.{in_size}
use Rattle.number.specs.OneResult.{only}
use Rattle.number.specs.Refused.{bad_schedule, done}
use Rattle.number.specs.declared.Refusal.{Refusal}
use Rattle.rows.specs.Rows.{Bytes, laid}
use Rattle.schedule.specs.Proof.Events
use Rattle.schedule.specs.Proof.Gives
use Rattle.schedule.specs.Proof.Judged
use Rattle.schedule.specs.Proof.Round
use Rattle.schedule.specs.Schedule.{GoodSchedule, NoPlace, Written, event_at, event_record, events_in, events_of, heading, heading_of, most_bytes, no_event}
use Rattle.schedule.specs.Schedule.{given, good, one_event, schedule_of, sizes, start_of, stays, width}
use Rattle.schedule.specs.Given.{Given, given_from}

-- ---- which bytes are a schedule

-- The test passes exactly the schedules that obey the rule of document 01.
pub good_schedule : (b : List ℕ) → (good b ≡ true) ↔ GoodSchedule b
good_schedule b = (Judged.passed_rule b, Judged.rule_passed b)

-- Bytes are a good schedule exactly if they are those of some T and K of 1 to 32 and of some events, and are at most 65,536.
pub schedule_exactly : (b : List ℕ) → Bytes b → (good b ≡ true) ↔ Written b
schedule_exactly = Round.schedule_exactly

-- No second result fits the promise of `good`.
pub good_one_result : (b : List ℕ) (r r' : Bool) → r ≡ good b → r' ≡ good b → r ≡ r'
good_one_result b r r' = only

-- ---- what was written
module _ (T K : ℕ) (es : List Event) where
  -- A schedule with T and K of 1 to 32 and no more events than there is room for is good.
  pub written_good : in_size T K ≡ true → width + width * length es ≤ most_bytes → good (schedule_of T K es) ≡ true
  written_good = Round.written_good T K es

  -- Its T, K and events are read again as they were, whatever they are ..
  pub heading_written : heading_of (schedule_of T K es) ≡ sizes T K
  heading_written = Round.heading_written T K es

  pub events_written : events_of (schedule_of T K es) ≡ es
  events_written = Round.events_written T K es

  -- .. and it has four bytes for its heading and for each event.
  pub length_written : length (schedule_of T K es) ≡ width + width * length es
  length_written = Round.length_written T K es

  pub many_written : events_in (schedule_of T K es) ≡ length es
  many_written = Round.many_written T K es

-- "No events at all is a good schedule."
pub none_good : (T K : ℕ) → in_size T K ≡ true → (good (heading.bytes (sizes T K)) ≡ true) × (events_of (heading.bytes (sizes T K)) ≡ [])
none_good = Round.none_good

-- ---- what is read

-- A good schedule is its heading and its events, and nothing else ..
pub length_good : (b : List ℕ) → good b ≡ true → length b ≡ width + width * events_in b
length_good b h = (Judged.passed b h).whole

-- .. 16,383 events at most.
pub few_events : (b : List ℕ) → good b ≡ true → events_in b ≤ 16_383
few_events = Judged.few_events

-- Of any bytes so many events are read as there is room for behind the heading.
pub length_events : (b : List ℕ) → length (events_of b) ≡ events_in b
length_events = Events.length_events

-- Written again with its own T, K and events, it is as it was ..
pub schedule_again : (b : List ℕ) → Bytes b → good b ≡ true → schedule_of (heading_of b).threads (heading_of b).nodes (events_of b) ≡ b
schedule_again = Round.schedule_again

-- .. and what follows its first i events are the bytes of the other events.
pub rest_of_events : (b : List ℕ) → Bytes b → good b ≡ true → (i : ℕ) → i ≤ events_in b → drop (start_of i) b ≡ laid event_record (drop i (events_of b))
rest_of_events = Round.rest_of_events

-- ---- event i, counted from 0, of any bytes
module _ (b : List ℕ) (i : ℕ) where
  -- It says the third and the fourth byte from its start ..
  pub event_there : i < events_in b → event_at b i ≡ event (get_or b (start_of i + 2) 0) (get_or b (start_of i + 3) 0)
  event_there = Events.event_there b i

  -- .. and is the next one where i events are read.
  pub events_from : i < events_in b → drop i (events_of b) ≡ event_at b i ∷ drop (i + 1) (events_of b)
  events_from = Events.events_from b i

  -- Where there is no such event, it is zeros.
  pub event_none : events_in b ≤ i → event_at b i ≡ no_event
  event_none = Events.event_none b i

-- ---- what stands at a place

-- At an event's start a good schedule gives success, the event, and the next one's start or the end.
pub given_event : (b : List ℕ) → good b ≡ true → (i : ℕ) → i < events_in b → given b (start_of i) ≡ one_event (event_at b i) (start_of (i + 1))
given_event = Gives.given_event

-- "At its end it gives none and stays"
pub given_end : (b : List ℕ) → good b ≡ true → given b (length b) ≡ stays done (length b)
given_end = Gives.given_end

-- "a bad schedule, or a place that is neither an event's start nor the end, gives 2", and nothing else does ..
pub given_refused : (b : List ℕ) (place : ℕ) → ((given b place).number ≡ bad_schedule) ↔ ((¬ GoodSchedule b) ⊎ NoPlace b place)
given_refused = Gives.given_refused

-- .. "and stays", with no event.
pub refused_stays : (b : List ℕ) (place : ℕ) → (given b place).number ≡ bad_schedule → given b place ≡ stays bad_schedule place
refused_stays = Gives.refused_stays

-- Where no event is given, at the end or after a refusal, the place to go on from is the same.
pub none_stays : (b : List ℕ) (place : ℕ) → (given b place).found ≡ false → (given b place).place ≡ place
none_stays = Gives.none_stays

-- The heading is no event: place 0 gives 2 ..
pub heading_is_no_event : (b : List ℕ) → given b 0 ≡ stays bad_schedule 0
heading_is_no_event = Gives.heading_is_no_event

-- .. and so does each place past the end.
pub past_the_end : (b : List ℕ) (place : ℕ) → length b < place → given b place ≡ stays bad_schedule place
past_the_end = Gives.past_the_end

-- No second result fits the promise of `given_at`.
pub given_one_result : (b : List ℕ) (place : ℕ) (r r' : Given) → r ≡ given b place → r' ≡ given b place → r ≡ r'
given_one_result b place r r' = only

-- .. and no second answer of the code does.
pub given_one_answer : (b : List ℕ) (place : ℕ) (r r' : Result (Option (Event × ℕ)) Refusal)
    → given_from place r ≡ given b place → given_from place r' ≡ given b place → r ≡ r'
given_one_answer = Gives.given_one_answer
