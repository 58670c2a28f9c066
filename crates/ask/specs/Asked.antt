-- What a question gives: document 01's number and value, and those of each case of a call's answer. Assumes nothing.
use Rattle.std.specs.Prelude.{◌≡◌, refl, ℕ}
use Rattle.std.proofs.Common.{Err, Ok, Result, ap}
use Rattle.number.specs.Answer.{number_of, told_apart}
use Rattle.number.specs.Refused.{done}
use Rattle.number.specs.declared.Refusal.{Refusal}

pub record Asked : Type 0 where
  pub number : ℕ
  pub value : ℕ

-- "Success is 0." "A refused question gives value 0 and no bytes"
abbrev pub asked_of : Result ℕ Refusal → Asked
asked_of (Ok value) = record { number = done; value = value }
asked_of (Err r) = record { number = number_of r; value = 0 }

-- no two answers stand for the same
pub one_asked : (r r' : Result ℕ Refusal) → asked_of r ≡ asked_of r' → r ≡ r'
one_asked = told_apart asked_of (λ a. a.number) (elim [ Ok v ↦ refl | Err r ↦ refl ]) (λ v v' e. ap (λ (a : Asked). a.value) e)
