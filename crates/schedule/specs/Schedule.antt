-- Document 01, "Schedule". First its two records, a schedule made of them, and what the bytes of one say; then the rule, as facts to be read and as the
-- test that the code makes, which agree (Theorems, `good_schedule`); then what stands at a place. Assumes nothing.
use Rattle.std.specs.Prelude.{Bool, cond, true, List, [], ◌∷◌, ◌++◌, ◌≢◌, ◌≡◌, ℕ, ◌+◌, ◌-◌, ◌*◌, ◌/◌, ◌%◌, ◌≤◌, ◌<◌, eqb, leb, ltb, drop, get_or, length}
use Rattle.events.specs.Events.{event}
use Rattle.events.specs.declared.Event.{Event}
use Rattle.lock.specs.Fresh.{in_size}
use Rattle.lock.specs.Valid.{Between}
use Rattle.number.specs.Refused.{bad_schedule, done}
use Rattle.number.specs.Sizes.{most_nodes, most_threads}
use Rattle.number.specs.Tests.{all_hold}
use Rattle.rows.specs.Rows.{Kind, MarkAt, letter_e, letter_h, letter_s, all_good, good as good_record, laid, values}
pub use Rattle.schedule.specs.Given.{Given, no_event, one_event, stays}
use Rattle.schedule.specs.declared.Heading.{Heading}

-- ---- the records

-- "Four bytes each"
abbrev pub width : ℕ
width = 4

abbrev pub sizes : ℕ → ℕ → Heading
sizes T K = record { threads = T; nodes = K }

-- "First `SH`, T, K"; "T and K 1 to 32"
abbrev pub heading : Kind Heading
heading = record {
  width = width;
  mark₁ = letter_s;
  mark₂ = letter_h;
  bytes = λ h. letter_s ∷ letter_h ∷ h.threads ∷ h.nodes ∷ [];
  value = λ b. sizes (get_or b 2 0) (get_or b 3 0);
  in_range = λ h. in_size h.threads h.nodes;
}

-- "then events `SE`, thread, node"; "Thread and node bytes of an event may hold any value and are judged when it comes up."
abbrev pub event_record : Kind Event
event_record = record {
  width = width;
  mark₁ = letter_s;
  mark₂ = letter_e;
  bytes = λ e. letter_s ∷ letter_e ∷ e.thread.0 ∷ e.node.0 ∷ [];
  value = λ b. event (get_or b 2 0) (get_or b 3 0);
  in_range = λ e. true;
}

-- "First `SH`, T, K; then events `SE`, thread, node.": the bytes of the schedule with T, K and these events
unfoldable pub schedule_of : ℕ → ℕ → List Event → List ℕ
schedule_of T K es = heading.bytes (sizes T K) ++ laid event_record es

-- "at most 65,536 bytes in all"
abbrev pub most_bytes : ℕ
most_bytes = 65_536

-- ---- what the bytes say, good or not

-- T and K
abbrev pub heading_of : List ℕ → Heading
heading_of b = heading.value b

-- how many whole events there is room for behind the heading
abbrev pub events_in : List ℕ → ℕ
events_in b = (length b - width) / width

unfoldable pub events_of : List ℕ → List Event
events_of b = values event_record (events_in b) (drop width b)

-- event i, counted from 0; zeros where there is none
abbrev pub event_at : List ℕ → ℕ → Event
event_at b i = get_or (events_of b) i no_event

-- where event i starts: behind the heading and i events
abbrev pub start_of : ℕ → ℕ
start_of i = width + width * i

-- ---- the rule

-- "First `SH`, T, K; then events `SE`, thread, node. Four bytes each, at most 65,536 bytes in all; T and K 1 to 32."
-- There are so many events; "No events at all is a good schedule."
pub record GoodSchedule (b : List ℕ) : Type 0 where
  pub many : ℕ
  pub long : length b ≡ width + width * many
  pub short : length b ≤ most_bytes
  pub head : MarkAt b 0 letter_s letter_h
  pub threads : Between 1 (heading_of b).threads most_threads
  pub nodes : Between 1 (heading_of b).nodes most_nodes
  pub events : (i : ℕ) → i < many → MarkAt b (start_of i) letter_s letter_e

-- The bytes are those of some T and K of 1 to 32 and of some events, and are not too many.
pub record Written (b : List ℕ) : Type 0 where
  pub threads : ℕ
  pub nodes : ℕ
  pub events : List Event
  pub size : in_size threads nodes ≡ true
  pub short : width + width * length events ≤ most_bytes
  pub same : b ≡ schedule_of threads nodes events

-- ---- the test

abbrev pub heading_good : List ℕ → Bool
heading_good b = good_record heading b

unfoldable pub events_good : List ℕ → Bool
events_good b = all_good event_record (events_in b) (drop width b)

abbrev pub tests : List ℕ → List Bool
tests b = leb (length b) most_bytes ∷ leb width (length b) ∷ eqb (length b % width) 0 ∷ heading_good b ∷ events_good b ∷ []

unfoldable pub good : List ℕ → Bool
good b = all_hold (tests b)

-- ---- what stands at a place

-- the place is an event's start: behind the heading, a whole number of events on, and before the end
abbrev pub start_tests : List ℕ → ℕ → List Bool
start_tests b place = leb width place ∷ eqb (place % width) 0 ∷ ltb place (length b) ∷ []

abbrev pub starts_event : List ℕ → ℕ → Bool
starts_event b place = all_hold (start_tests b place)

-- "gives one event at a time. At its end it gives none and stays; .. a place that is neither an event's start nor the end, gives 2 and stays."
abbrev pub standing : List ℕ → ℕ → Given
standing b place =
    cond (starts_event b place) (one_event (event_at b ((place - width) / width)) (place + width))
    (cond (eqb place (length b)) (stays done place) (stays bad_schedule place))

-- "a bad schedule .. gives 2 and stays": all of the schedule is judged, whatever the place
unfoldable pub given : List ℕ → ℕ → Given
given b place = cond (good b) (standing b place) (stays bad_schedule place)

-- "a place that is neither an event's start nor the end"
pub record NoPlace (b : List ℕ) (place : ℕ) : Type 0 where
  pub no_start : (i : ℕ) → i < events_in b → place ≢ start_of i
  pub no_end : place ≢ length b
