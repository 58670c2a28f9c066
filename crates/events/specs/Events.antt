-- Events one after the other, under any tool that takes the step's place: the state reached, the answers, and the lines executed. The useless tools
-- are run by these definitions too, so a tool is a parameter throughout. An event is the struct of src/lib.rt. Row.antt has the row of events that
-- ends at a stop. Assumes nothing.
use Rattle.std.specs.Prelude.{Bool, cond, true, ◌&&◌, List, [], ◌∷◌, ℕ, eqb, replicate}
use Rattle.lock.specs.State.{thread_at}
use Rattle.lock.specs.declared.State.{State}
use Rattle.number.specs.Numbers.{node, thread}
use Rattle.number.specs.Refused.{done}
use Rattle.machine.specs.Demands.{Tool}
use Rattle.events.specs.declared.Event.{Event}

infix 68 ◌times◌
-- ---- events

-- document 01's (t,n)
abbrev pub event : ℕ → ℕ → Event
event t n = record { thread = thread t; node = node n }

-- the same event so many times
abbrev pub ◌times◌ : ℕ → Event → List Event
many times e = replicate many e

-- ---- a tool over events
module _ (tool : Tool) where
  -- the state after the events
  unfoldable pub after : State → List Event → State
  after s [] = s
  after s (e ∷ es) = after (tool s e.thread e.node).state es

  -- the answer to each event
  unfoldable pub answers : State → List Event → List ℕ
  answers s [] = []
  answers s (e ∷ es) = let r = tool s e.thread e.node in r.answer ∷ answers r.state es

  -- the lines that the events execute: a refused event executes none
  unfoldable pub lines_done : State → List Event → List ℕ
  lines_done s [] = []
  lines_done s (e ∷ es) =
      let r = tool s e.thread e.node in
      let later = lines_done r.state es in
      cond (eqb r.answer done) ((thread_at s e.thread).line ∷ later) later

  -- each of the events is accepted
  unfoldable pub accepts_all : State → List Event → Bool
  accepts_all s [] = true
  accepts_all s (e ∷ es) =
      let r = tool s e.thread e.node in
      let later = accepts_all r.state es in
      eqb r.answer done && later
