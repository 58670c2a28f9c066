-- An event in a valid state: there `advance` is the step, and the state after it is valid too, so that a row may judge its start alone. Which answers
-- stop: the first condition that applies has one of the table's numbers. Rests on the step's theorems. Assumes nothing.
use Rattle.std.specs.Prelude.{cond, false, List, ◌∷◌, ◌++◌, ◌≢◌, ◌↔◌, ◌≡◌, refl, ℕ}
use Rattle.std.proofs.Common.{ap, sym, ◌∙◌, arith}
use Rattle.std.proofs.Math.Decide.{ℕ_discrete}
use Rattle.lock.specs.Valid.{Between, SameSize, Valid}
use Rattle.lock.specs.declared.State.{State}
use Rattle.number.specs.First.{◌given-when◌}
use Rattle.number.specs.FirstThat.{AllGiven, first_behind, first_has}
use Rattle.number.specs.Refused.{bad_state, done, no_place_left, no_such_thread}
use Rattle.number.specs.declared.NodeNo.{NodeNo}
use Rattle.number.specs.declared.ThreadNo.{ThreadNo}
use Rattle.machine.specs.Conditions.{First, conditions, event_conditions}
use Rattle.machine.specs.Step.{advance, step, stepped}
use Rattle.machine.specs.Theorems.{advance_is_step, exactly_when, refused_unchanged, size_kept, valid_kept}
use Rattle.machine.specs.Stepped.{Stepped}
use Rattle.events.specs.Proof.Answers.{stop_not_done}
use Rattle.events.specs.Proof.Rows.{SameRow, by_events, kept, same_row, stop_end}
use Rattle.events.specs.Row.{goes_on, row_answers, row_end, stopping}
use Rattle.events.specs.declared.Event.{Event}

-- ---- one event
module _ (s : State) (t : ThreadNo) (n : NodeNo) (rule : Valid s) where
  -- to judge the state changes nothing
  pub is_step : advance s t n ≡ step s t n
  is_step = advance_is_step s t n rule

  -- accepted or refused, it leaves a valid state
  pub state_valid : Valid (advance s t n).state
  state_valid = rw is_step (go (ℕ_discrete (step s t n).answer done))
    where
      go : Dec ((step s t n).answer ≡ done) → Valid (step s t n).state
      go (yes h) = valid_kept s t n rule h
      go (no h) = rw (refused_unchanged s t n h) rule

  -- condition 1 does not apply, so the first that applies is the event's
  events_own : (m : ℕ) → First (conditions s t n) m ↔ First (event_conditions s t n) m
  events_own m = first_behind (bad_state given-when (¬ Valid s)) (event_conditions s t n) m (λ broken. broken rule)

  -- the answer is the number of the first condition that applies
  pub answer_first : First (event_conditions s t n) (advance s t n).answer
  answer_first = rw is_step ((events_own (step s t n).answer).0 ((exactly_when s t n rule.sized (step s t n).answer).0 refl))

  -- a number of the table that is not 0 is the answer, and the state stays
  pub refused : (m : ℕ) → First (event_conditions s t n) m → m ≢ done → advance s t n ≡ stepped m s
  refused m f off =
      let e : (step s t n).answer ≡ m = (exactly_when s t n rule.sized m).1 ((events_own m).1 f) in
      let same : (step s t n).state ≡ s = refused_unchanged s t n (λ z. off (sym e ∙ z)) in
      is_step ∙ (λ i. record { answer = e i; state = same i })

  -- a refused event leaves the state
  pub stays : (advance s t n).answer ≢ done → (advance s t n).state ≡ s
  stays h = ap (λ (r : Stepped). r.state) (refused (advance s t n).answer answer_first h)

-- ---- which answers stop

-- the number goes on, or it is 5 to 11
abbrev OnOrWithin : ℕ → Type 0
OnOrWithin m = cond (goes_on m) (Unit {0}) (Between no_such_thread m no_place_left)

pub stops_within : (s : State) (t : ThreadNo) (n : NodeNo) → Valid s → goes_on (advance s t n).answer ≡ false
    → Between no_such_thread (advance s t n).answer no_place_left
stops_within s t n rule h =
    let all : AllGiven OnOrWithin (event_conditions s t n) = omega arith in
    rw h at (first_has OnOrWithin (event_conditions s t n) (advance s t n).answer all (answer_first s t n rule))

-- ---- rows: each event keeps the state valid, and T and K
keeps_valid : (s : State) (e : Event) → Valid s → Valid (advance s e.thread e.node).state
keeps_valid s e = state_valid s e.thread e.node

pub judged_once : (s : State) (es : List Event) → Valid s → SameRow advance step s es
judged_once = same_row advance Valid keeps_valid step (λ s e. is_step s e.thread e.node)

pub row_valid : (s : State) (es : List Event) → Valid s → Valid (row_end advance s es)
row_valid = kept advance Valid keeps_valid

pub row_size : (s : State) (es : List Event) → Valid s → SameSize s (row_end advance s es)
row_size s es rule =
    (kept advance (λ s'. Valid s' × SameSize s s')
    (λ s' e p.
    let size = rw (← is_step s' e.thread e.node p.0) at (size_kept s' e.thread e.node p.0) in
    (keeps_valid s' e p.0, record { threads = size.threads ∙ p.1.threads; nodes = size.nodes ∙ p.1.nodes }))
    s es (rule, record { threads = refl; nodes = refl })).1

-- ---- rows that stop
pub row_stop_stays : (s : State) (es : List Event) (e : Event) (later : List Event) → Valid s → stopping (row_answers advance s es) ≡ done
    → goes_on (advance (row_end advance s es) e.thread e.node).answer ≡ false → row_end advance s (es ++ e ∷ later) ≡ row_end advance s es
row_stop_stays s es e later rule on h =
    stop_end advance s es on e later h ∙ stays (row_end advance s es) e.thread e.node (row_valid s es rule) (stop_not_done _ h)

pub row_stops_within : (s : State) (es : List Event) → Valid s → stopping (row_answers advance s es) ≢ done
    → Between no_such_thread (stopping (row_answers advance s es)) no_place_left
unfolding row_answers stopping
row_stops_within =
    by_events advance (λ s es. Valid s → stopping (row_answers advance s es) ≢ done → Between no_such_thread (stopping (row_answers advance s es)) no_place_left)
    (λ s rule off. absurd (off refl))
    (λ s e es h later rule off. rw h (later (keeps_valid s e rule) (rw h at off)))
    (λ s e es h rule off. rw h (stops_within s e.thread e.node rule h))
