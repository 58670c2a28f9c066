-- The step over a kept state. Document 01: "A host may also keep one lock state and have each step alter that state where it stands, with the same
-- results." The results of the step by value (crate `step`), one by one: its answer is handed back, and its state stands where the old one stood.
-- Assumes nothing.
use Rattle.std.specs.Prelude.{ℕ}
use Rattle.lock.specs.declared.State.{State}
use Rattle.number.specs.declared.NodeNo.{NodeNo}
use Rattle.number.specs.declared.ThreadNo.{ThreadNo}
use Rattle.machine.specs.Step.{step}

-- "with the same results": the answer
abbrev pub kept_answer : State → ThreadNo → NodeNo → ℕ
kept_answer s t n = (step s t n).answer

-- "have each step alter that state where it stands": the state afterwards
abbrev pub kept_state : State → ThreadNo → NodeNo → State
kept_state s t n = (step s t n).state
