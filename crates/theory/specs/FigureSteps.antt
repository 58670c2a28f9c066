-- A sequence of Figure 1's steps, by themselves: no tool is asked here. Each event names a thread 1 to T, and a node 1 to K at line 11 and none elsewhere,
-- while entries remain; the rest is the figure's. (Demand 2 has two conditions more, that followed nodes are in use and that places remain. They are not
-- asked here: from a fresh lock they always hold, as `takes_figure` shows.) Assumes nothing.
use Rattle.std.specs.Prelude.{List, [], ◌∷◌, ◌≢◌, ◌≡◌, ◌≤◌, ◌<◌}
use Rattle.events.specs.declared.Event.{Event}
use Rattle.figure.specs.Figure.{Figure, entered, line}
use Rattle.lock.specs.Valid.{Between}
use Rattle.lock.specs.declared.State.{State}
use Rattle.number.specs.Sizes.{most_entries}

-- the event's numbers are within the state's, and entries remain
pub record Within (s : State) (e : Event) : Type 0 where
  pub thread : Between 1 e.thread.0 s.shared.threads
  pub named : line s e.thread ≢ 11 → e.node.0 ≡ 0
  pub within : line s e.thread ≡ 11 → e.node.0 ≤ s.shared.nodes
  pub entries : line s e.thread ≡ 11 → entered s < most_entries

-- The events es, each a step of Figure 1, lead from s to s'.
pub data FigureSteps : State → List Event → State → Type 0 where
  no_steps : {s : State} → FigureSteps s [] s
  one_step : {s s' s'' : State} {e : Event} {es : List Event}
      → Within s e → Figure e.thread e.node s s' → FigureSteps s' es s'' → FigureSteps s (e ∷ es) s''
