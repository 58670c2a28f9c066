-- Document 01 on a run: "Then each event's answer is stored at its place. After 0 or 12 the run goes on; 5 to 11 stop it. .. The run gives the state it
-- ends in and reports events executed (answer 0), events waited (answer 12) and the stopping number, or 0". Here: the answers to a row of events up to
-- and including the first that stops, the state that the row ends in, and the counts; under any tool that takes the step's place. Assumes nothing.
use Rattle.std.specs.Prelude.{Bool, cond, ◌||◌, List, [], ◌∷◌, ℕ, ◌+◌, eqb}
use Rattle.lock.specs.declared.State.{State}
use Rattle.number.specs.Refused.{done, must_wait}
use Rattle.machine.specs.Demands.{Tool}
use Rattle.events.specs.declared.Event.{Event}

-- ---- an answer

-- "executed (answer 0)"
abbrev pub executes : ℕ → Bool
executes a = eqb a done

-- "waited (answer 12)". This says what a wait's answer is; nothing else in this crate does.
abbrev pub waits : ℕ → Bool
waits a = eqb a must_wait

-- "After 0 or 12 the run goes on; 5 to 11 stop it."
abbrev pub goes_on : ℕ → Bool
goes_on a = executes a || waits a

-- ---- a row of events, under a tool
module _ (tool : Tool) where
  -- the answers, up to and including the first that stops
  unfoldable pub row_answers : State → List Event → List ℕ
  row_answers s [] = []
  row_answers s (e ∷ es) =
      let r = tool s e.thread e.node in
      let later = row_answers r.state es in
      r.answer ∷ cond (goes_on r.answer) later []

  -- "the state it ends in"
  unfoldable pub row_end : State → List Event → State
  row_end s [] = s
  row_end s (e ∷ es) =
      let r = tool s e.thread e.node in
      let later = row_end r.state es in
      cond (goes_on r.answer) later r.state

-- ---- a list of answers

-- the list, up to and including the first answer that stops
unfoldable pub up_to_stop : List ℕ → List ℕ
up_to_stop [] = []
up_to_stop (a ∷ later) = let rest = up_to_stop later in a ∷ cond (goes_on a) rest []

-- how many answers pass the test
unfoldable pub how_many_of : (ℕ → Bool) → List ℕ → ℕ
how_many_of test [] = 0
how_many_of test (a ∷ later) = cond (test a) 1 0 + how_many_of test later

-- "events executed (answer 0)"
abbrev pub executed : List ℕ → ℕ
executed answers = how_many_of executes answers

-- "events waited (answer 12)"
abbrev pub waited : List ℕ → ℕ
waited answers = how_many_of waits answers

-- "the stopping number, or 0": the first answer that stops
unfoldable pub stopping : List ℕ → ℕ
stopping [] = done
stopping (a ∷ later) = let rest = stopping later in cond (goes_on a) rest a
