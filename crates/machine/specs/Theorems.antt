-- What a step promises: the theorems that a buyer needs, each under a plain sentence. The arguments are in Proof. Assumes nothing.
-- `sound`, `complete`, `no_second_tool` and `complete_same` stand in proofs/Theorems, with their arguments beside it: what a line does decides them.
use Rattle.std.specs.Prelude.{List, ◌∷◌, ◌++◌, ◌≢◌, ◌↔◌, ◌≡◌}
use Rattle.lock.specs.Judged.{rule_valid}
use Rattle.lock.specs.State.{node_at, thread_at}
use Rattle.lock.specs.Valid.{SameSize, Sized, Valid}
use Rattle.lock.specs.declared.State.{State}
use Rattle.number.specs.OneResult.{only}
use Rattle.number.specs.Refused.{done}
use Rattle.number.specs.declared.NodeNo.{NodeNo}
use Rattle.number.specs.declared.ThreadNo.{ThreadNo}
use Rattle.machine.specs.Conditions.{Condition, Follows, NoneApply, conditions}
use Rattle.machine.specs.Proof.Answer
use Rattle.machine.specs.Proof.Accepts
use Rattle.machine.specs.Proof.Exactly
use Rattle.machine.specs.Proof.Stays
use Rattle.machine.specs.Step.{advance, step}
use Rattle.machine.specs.Stepped.{Stepped}
pub use Rattle.machine.specs.Demands.{Complete, Exact, Possible, Sound, Tool, Unchanged}

-- The answer is the number of the first condition of document 01 that applies, and 0 exactly when none does.
pub exactly_when : Exact step
exactly_when = Exactly.exactly_when

-- So 0 is given exactly when no condition applies ..
pub accepted_exactly : (s : State) (t : ThreadNo) (n : NodeNo) → Sized s → ((step s t n).answer ≡ done) ↔ NoneApply (conditions s t n)
accepted_exactly = Exactly.accepted_exactly

-- .. and each number exactly when its condition applies and none before it in the table does.
pub given_exactly : (s : State) (t : ThreadNo) (n : NodeNo) → Sized s → (before : List Condition) (c : Condition) (later : List Condition)
    → conditions s t n ≡ before ++ c ∷ later → ((step s t n).answer ≡ c.number) ↔ (NoneApply before × c.applies)
given_exactly = Exactly.given_exactly

-- A refused step leaves the state unchanged, whatever the state, valid or not.
pub refused_unchanged : Unchanged step
refused_unchanged = Answer.unchanged

-- "Nothing else changes in a step": whatever the event, every other thread is as it was ..
pub others_stay : (s : State) (t : ThreadNo) (n : NodeNo) (q : ThreadNo) → q.0 ≢ t.0 → thread_at (step s t n).state q ≡ thread_at s q
others_stay = Stays.others_stay

-- .. and so is every node that the thread's line does not follow.
pub nodes_stay : (s : State) (t : ThreadNo) (n : NodeNo) → Valid s → (k : NodeNo) → ¬ Follows (thread_at s t) k → node_at (step s t n).state k ≡ node_at s k
nodes_stay = Stays.nodes_stay

-- An accepted step keeps a valid state valid.
pub valid_kept : (s : State) (t : ThreadNo) (n : NodeNo) → Valid s → (step s t n).answer ≡ done → Valid (step s t n).state
valid_kept = Accepts.valid_kept

-- In a valid state the inner step, which does not judge it, is the step.
pub advance_is_step : (s : State) (t : ThreadNo) (n : NodeNo) → Valid s → advance s t n ≡ step s t n
unfolding step
advance_is_step s t n rule = rw (rule_valid s rule)

-- A step, accepted or refused, leaves T and K as they were.
pub size_kept : (s : State) (t : ThreadNo) (n : NodeNo) → Valid s → SameSize s (step s t n).state
size_kept = Accepts.size_kept

-- An accepted step was possible.
pub accepted_possible : (s : State) (t : ThreadNo) (n : NodeNo) → Valid s → (step s t n).answer ≡ done → Possible s t n
accepted_possible = Accepts.possible

-- Two results that both meet the step's promise are equal.
pub step_one_result : (s : State) (t : ThreadNo) (n : NodeNo) (r r' : Stepped) → r ≡ step s t n → r' ≡ step s t n → r ≡ r'
step_one_result s t n r r' = only
