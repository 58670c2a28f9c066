-- What a step promises against Figure 1, and that the demands leave no second tool: the theorems of specs/Theorems that a change of what a line does can
-- refute. Their words are in specs/Demands, the arguments in Against and Leads. Assumes nothing.
use Rattle.std.specs.Prelude.{◌≡◌}
use Rattle.lock.specs.Valid.{Sized, Valid}
use Rattle.lock.specs.declared.State.{State}
use Rattle.number.specs.Refused.{done}
use Rattle.number.specs.declared.NodeNo.{NodeNo}
use Rattle.number.specs.declared.ThreadNo.{ThreadNo}
use Rattle.machine.proofs.Against
use Rattle.machine.specs.Step.{step}
use Rattle.machine.specs.Demands.{Complete, Exact, Sound, Tool, Unchanged}

-- From a valid state, an accepted step is a step of Figure 1 by that thread and node.
pub sound : Sound step
sound = Against.sound

-- From a valid state, each step that Figure 1 allows and that is possible is accepted, and leads where the figure leads.
pub complete : Complete step
complete = Against.complete

-- Demands 1 and 2 leave no second tool: one whose answers are document 01's, whose refusals leave the state alone, and which is complete, is our step.
pub no_second_tool : (tool : Tool) → Exact tool → Unchanged tool → Complete tool
    → (s : State) (t : ThreadNo) (n : NodeNo) → Sized s → tool s t n ≡ step s t n
no_second_tool = Against.no_second_tool

-- A complete tool does what our step does, wherever our step accepts.
pub complete_same : (tool : Tool) → Complete tool → (s : State) (t : ThreadNo) (n : NodeNo) → Valid s → (step s t n).answer ≡ done → tool s t n ≡ step s t n
complete_same = Against.complete_same
