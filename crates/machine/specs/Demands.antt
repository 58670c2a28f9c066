-- Demands 1 and 2 for a step, as statements about any tool that is offered as one: that its answers are document 01's, that a refusal leaves the state
-- alone, and that it is sound and complete against Figure 1. Theorems.antt, here
-- and in proofs/, proves them of our step, and that they leave no second tool. Assumes nothing.
use Rattle.std.specs.Prelude.{true, ◌≢◌, ◌↔◌, ◌≡◌, ℕ, ◌≤◌, ◌<◌}
use Rattle.figure.specs.Figure.{Figure, entered, high, line, local, low}
use Rattle.lock.specs.State.{thread_at}
use Rattle.lock.specs.Valid.{Between, Sized, Valid}
use Rattle.lock.specs.declared.State.{State}
use Rattle.number.specs.Refused.{done}
use Rattle.number.specs.Sizes.{last_place, most_entries}
use Rattle.number.specs.declared.NodeNo.{NodeNo}
use Rattle.number.specs.declared.ThreadNo.{ThreadNo}
use Rattle.machine.specs.Conditions.{First, Follows, conditions}
use Rattle.machine.specs.Step.{stepped}
use Rattle.machine.specs.Stepped.{Stepped}
use Rattle.word.specs.Word.{in_use}

-- what is offered as a step: a number and a state for every state, thread and node
abbrev pub Tool : Type 0
Tool = State → ThreadNo → NodeNo → Stepped

-- ---- demand 1

-- The answer is the number of the first condition of document 01 that applies, and 0 if none does.
abbrev pub Exact : Tool → Type 0
Exact tool = (s : State) (t : ThreadNo) (n : NodeNo) → Sized s → (m : ℕ) → ((tool s t n).answer ≡ m) ↔ First (conditions s t n) m

-- A refused step leaves the state unchanged, whatever the state, valid or not.
abbrev pub Unchanged : Tool → Type 0
Unchanged tool = (s : State) (t : ThreadNo) (n : NodeNo) → (tool s t n).answer ≢ done → (tool s t n).state ≡ s

-- ---- demand 2

-- From a valid state, an accepted step is a step of Figure 1 by that thread and node.
abbrev pub Sound : Tool → Type 0
Sound tool = (s : State) (t : ThreadNo) (n : NodeNo) → Valid s → (tool s t n).answer ≡ done → Figure t n s (tool s t n).state

-- What a step that the figure allows must have to be accepted: the thread is 1 to T, the node is named at line 11 alone and is within the table,
-- entries and places remain, and no node followed is empty or out of use.
pub record Possible (s : State) (t : ThreadNo) (n : NodeNo) : Type 0 where
  pub thread : Between 1 t.0 s.shared.threads
  pub named : line s t ≢ 11 → n.0 ≡ 0
  pub within : line s t ≡ 11 → n.0 ≤ s.shared.nodes
  pub entries : line s t ≡ 11 → entered s < most_entries
  pub high_places : line s t ≡ 14 → (high s).0 < last_place
  pub low_places : line s t ≡ 29 → (low s).0 < last_place
  pub followed : (k : NodeNo) → Follows (thread_at s t) k → (k.0 ≢ 0) × (in_use (local s) k ≡ true)

-- From a valid state, if Figure 1 leads by thread t and node n to s', then the step gives 0 and s', provided that it is possible.
abbrev pub Complete : Tool → Type 0
Complete tool =
    (s : State) (t : ThreadNo) (n : NodeNo) (s' : State) → Valid s → Possible s t n → Figure t n s s' → tool s t n ≡ stepped done s'
