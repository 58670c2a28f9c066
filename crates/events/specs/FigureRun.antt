-- A run by the published figure and document 01's table of refusals alone: no step is executed here. `FigureRun s es answers s'` says that the events es,
-- taken one after the other from state s, may be answered so and end in s': by 0 and a step of Figure 1 where that is possible, by a wait's number or by
-- a number that stops where the table gives that number. Theorems.antt says that our row is such a run, and that there is no other. Assumes nothing.
use Rattle.std.specs.Prelude.{false, true, List, [], ◌∷◌, ◌≡◌, ℕ}
use Rattle.figure.specs.Figure.{Figure}
use Rattle.lock.specs.declared.State.{State}
use Rattle.number.specs.Refused.{done}
use Rattle.machine.specs.Conditions.{First, event_conditions}
use Rattle.machine.specs.Demands.{Possible}
use Rattle.events.specs.Row.{goes_on, waits}
use Rattle.events.specs.declared.Event.{Event}

pub data FigureRun : State → List Event → List ℕ → State → Type 0 where
  -- no events at all: no answers, and the state stays
  no_events : {s : State} → FigureRun s [] [] s
  -- executed, answer 0: the step is possible and Figure 1 leads to s', from where the run goes on
  executed : {s s' s'' : State} {e : Event} {es : List Event} {later : List ℕ}
      → Possible s e.thread e.node → Figure e.thread e.node s s'
      → FigureRun s' es later s'' → FigureRun s (e ∷ es) (done ∷ later) s''
  -- waited: the table gives a wait's number, the state stays, and the run goes on
  waited : {s s'' : State} {e : Event} {es : List Event} {m : ℕ} {later : List ℕ}
      → First (event_conditions s e.thread e.node) m → waits m ≡ true
      → FigureRun s es later s'' → FigureRun s (e ∷ es) (m ∷ later) s''
  -- stopped: the table gives a number after which no run goes on, the state stays, and later events are not taken
  stopped : {s : State} {e : Event} {es : List Event} {m : ℕ}
      → First (event_conditions s e.thread e.node) m → goes_on m ≡ false → FigureRun s (e ∷ es) (m ∷ []) s
