-- The answer to an event, and the state after it; and the pair that a call's answer stands for, where the call gives the state after an event or the refusal
-- that stops it. Assumes nothing.
use Rattle.std.specs.Prelude.{◌≡◌, refl, ℕ}
use Rattle.std.proofs.Common.{Err, Ok, Result, ap}
use Rattle.lock.specs.declared.State.{State}
use Rattle.number.specs.Answer.{number_of, told_apart}
use Rattle.number.specs.Refused.{done}
use Rattle.number.specs.declared.Refusal.{Refusal}

pub record Stepped : Type 0 where
  pub answer : ℕ
  pub state : State

-- "Success is 0."; a refused event leaves the state as it was
abbrev pub stepped_from : State → Result State Refusal → Stepped
stepped_from s (Ok after) = record { answer = done; state = after }
stepped_from s (Err r) = record { answer = number_of r; state = s }

-- no two answers stand for the same
pub one_stepped : (s : State) (r r' : Result State Refusal) → stepped_from s r ≡ stepped_from s r' → r ≡ r'
one_stepped s = told_apart (stepped_from s) (λ d. d.answer) (elim [ Ok s' ↦ refl | Err r ↦ refl ]) (λ s' s'' e. ap (λ (d : Stepped). d.state) e)
