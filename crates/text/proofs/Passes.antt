-- One pass over the events of a schedule: the law of its loop. What is left of the lines, stored from the present place on, makes the lines of all events
-- from behind the heading on; an event's turn keeps that, and where the row is over nothing is left. Rests on EventLines. Assumes nothing.
use Rattle.std.specs.Prelude.{Bool, cond, false, true, List, [], ◌++◌, ◌≡◌, refl, ℕ, ◌+◌, ◌≤◌, ◌<◌, drop, get_or, length}
use Rattle.std.proofs.Common.{ap, sym, ◌∙◌, add-one, arith, length-append, drop-cons}
use Rattle.std.proofs.Math.Seq.{drop-length}
use Rattle.events.specs.Row.{goes_on}
use Rattle.events.specs.declared.Event.{Event}
use Rattle.lock.specs.declared.State.{State}
use Rattle.schedule.specs.Schedule.{events_of, good, no_event}
use Rattle.schedule.specs.Theorems.{few_events, length_events}
use Rattle.machine.specs.Step.{advance}
use Rattle.machine.specs.Stepped.{Stepped}
use Rattle.text.specs.Decimal.{letters_from}
use Rattle.text.specs.Inner.{LineFits, LinesFit, Passed, farthest, line_room, placed}
use Rattle.text.specs.Proof.Lines.{placed_append, placed_length, placed_none}
use Rattle.text.proofs.EventLines.{lines_cons, lines_none, lines_within}
use Rattle.text.specs.Text.{begin, event_line, event_lines, heading, lines_of}

pub heading_length : length heading ≡ 40
unfolding letters_from
heading_length = refl

-- No place of a good schedule's lines is too far.
pub lines_near : (b : List ℕ) → good b ≡ true → length heading + length (lines_of b) ≤ farthest
lines_near b h = omega (arith, heading_length, lines_within 1 (begin b) (events_of b), length_events b, few_events b h)

-- ---- what the loop knows: i events are taken and none of them stopped, s is the state now, and the next line belongs at this place
pub record Left (write : Bool) (b out₀ out : List ℕ) (s : State) (place i : ℕ) : Type 0 where
  pub within : i ≤ length (events_of b)
  pub behind : place + length (event_lines (i + 1) s (drop i (events_of b))) ≡ length heading + length (lines_of b)
  pub stored : placed write out place (event_lines (i + 1) s (drop i (events_of b))) ≡ placed write out₀ (length heading) (lines_of b)
  pub long : length out ≡ length out₀

-- where nothing is left
over_here : (write : Bool) (b out₀ out : List ℕ) (place : ℕ) (rest : List ℕ) → rest ≡ [] → place + length rest ≡ length heading + length (lines_of b)
    → placed write out place rest ≡ placed write out₀ (length heading) (lines_of b) → Passed write b out₀ out place
over_here write b out₀ out place rest none behind stored =
    (omega (arith, ap length none), sym (placed_none write out place) ∙ ap (placed write out place) (sym none) ∙ stored)

-- ---- before the first event
pub start : (write : Bool) (b out : List ℕ) (s : State) (place : ℕ) → s ≡ begin b → place ≡ length heading → Left write b out out s place 0
start write b out s place e h = rw (e, h) record { within = omega arith; behind = refl; stored = refl; long = refl }

-- ---- an event's turn

-- event e is the one behind the first i, and r its answer with the state after it
pub record Turn (b : List ℕ) (s : State) (i : ℕ) (e : Event) (r : Stepped) : Type 0 where
  pub inside : i < length (events_of b)
  pub here : e ≡ get_or (events_of b) i no_event
  pub gives : r ≡ advance s e.thread e.node

module _ {write : Bool} {b out₀ out : List ℕ} {s : State} {place i : ℕ} (left : Left write b out₀ out s place i) {e : Event} {r : Stepped}
    (turn : Turn b s i e r) {l : List ℕ} (made : l ≡ event_line (i + 1) s e r) where
  abbrev line : List ℕ
  line = event_line (i + 1) s e r

  abbrev later : List ℕ
  later = event_lines (i + 1 + 1) r.state (drop (i + 1) (events_of b))

  abbrev rest : List ℕ
  rest = cond (goes_on r.answer) later []

  from : event_lines (i + 1) s (drop i (events_of b)) ≡ line ++ rest
  from =
      ap (event_lines (i + 1) s) (drop-cons (events_of b) i no_event turn.inside ∙ rw (← turn.here, ← add-one i))
      ∙ lines_cons (i + 1) s e (drop (i + 1) (events_of b)) r turn.gives

  behind_line : place + length line + length rest ≡ length heading + length (lines_of b)
  behind_line = omega (arith, left.behind, ap length from, length-append line rest)

  stored_line : placed write (placed write out place line) (place + length line) rest ≡ placed write out₀ (length heading) (lines_of b)
  stored_line = sym (placed_append write out place line rest) ∙ ap (placed write out place) (sym from) ∙ left.stored

  -- There is room for its line wherever there is room for all.
  pub has_room : length l ≤ line_room → good b ≡ true → LinesFit write b out₀ → LineFits write l place out
  has_room within rule fits = record {
    within = within;
    near = omega (arith, behind_line, lines_near b rule);
    room = λ w. omega (arith, behind_line, ap length made, fits.room w, left.long);
  }

  -- once its line is stored, where it is to be written
  module _ (out' : List ℕ) (place' : ℕ) (after : (place' ≡ place + length l) × (out' ≡ placed write out place l)) where
    now_behind : place' ≡ place + length line
    now_behind = after.0 ∙ ap (λ (l : List ℕ). place + length l) made

    now_stored : out' ≡ placed write out place line
    now_stored = after.1 ∙ ap (placed write out place) made

    -- it goes on
    pub goes_on_lem : goes_on r.answer ≡ true → Left write b out₀ out' r.state place' (i + 1)
    goes_on_lem h =
        let on : rest ≡ later = rw h in
        rw (now_stored, now_behind)
        record {
          within = omega arith;
          behind = ap (λ l. place + length line + length l) (sym on) ∙ behind_line;
          stored = ap (placed write (placed write out place line) (place + length line)) (sym on) ∙ stored_line;
          long = placed_length write out place line ∙ left.long;
        }

    -- it stops
    pub stops : goes_on r.answer ≡ false → Passed write b out₀ out' place'
    stops h = rw (now_stored, now_behind) (over_here write b out₀ _ _ rest (rw h) behind_line stored_line)

-- ---- behind the last event
pub at_the_end : {write : Bool} {b out₀ out : List ℕ} {s : State} {place i : ℕ} → Left write b out₀ out s place i → i ≡ length (events_of b)
    → Passed write b out₀ out place
at_the_end {write} {b} {out₀} {out} {s} {place} {i} left e =
    over_here write b out₀ out place (event_lines (i + 1) s (drop i (events_of b)))
    (ap (λ (k : ℕ). event_lines (i + 1) s (drop k (events_of b))) e ∙ ap (event_lines (i + 1) s) (drop-length (events_of b)) ∙ lines_none (i + 1) s)
    left.behind
    left.stored
