-- What the step over a kept state promises: the theorems that a buyer needs, each under a plain sentence. Assumes nothing.
use Rattle.std.specs.Prelude.{◌≢◌, ◌≡◌, ℕ}
use Rattle.lock.specs.declared.State.{State}
use Rattle.number.specs.OneResult.{only}
use Rattle.number.specs.Refused.{done}
use Rattle.number.specs.declared.NodeNo.{NodeNo}
use Rattle.number.specs.declared.ThreadNo.{ThreadNo}
use Rattle.machine.specs.Step.{step, stepped}
use Rattle.machine.specs.Theorems.{refused_unchanged}
use Rattle.kept.specs.Kept.{kept_answer, kept_state}

module _ (s : State) (t : ThreadNo) (n : NodeNo) where
  -- "with the same results": an answer and a state afterwards that meet the promise are, together, what the step by value gives.
  pub kept_same : (r : ℕ) (after : State) → (r ≡ kept_answer s t n) × (after ≡ kept_state s t n) → stepped r after ≡ step s t n
  kept_same r after p = λ i. stepped (p.0 i) (p.1 i)

  -- A refused step leaves the state as it was, valid or not.
  pub kept_refused : kept_answer s t n ≢ done → kept_state s t n ≡ s
  kept_refused = refused_unchanged s t n

  -- Two results that both meet the promise are equal: the answer, and the state afterwards.
  pub kept_one_result : (r r' : ℕ) (after after' : State)
      → (r ≡ kept_answer s t n) × (after ≡ kept_state s t n) → (r' ≡ kept_answer s t n) × (after' ≡ kept_state s t n) → (r ≡ r') × (after ≡ after')
  kept_one_result r r' after after' p q = (only p.0 q.0, only p.1 q.1)
