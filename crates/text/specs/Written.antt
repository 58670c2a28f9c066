-- What the call gives: document 01's number, and how many bytes the text has; and those of each case of the call's answer. Assumes nothing.
use Rattle.std.specs.Prelude.{◌≡◌, refl, ℕ}
use Rattle.std.proofs.Common.{Err, Ok, Result, ap}
use Rattle.number.specs.Answer.{number_of, told_apart}
use Rattle.number.specs.Refused.{done}
use Rattle.number.specs.declared.Refusal.{Refusal}

pub record Written : Type 0 where
  pub number : ℕ
  pub size : ℕ

-- 0 and how many bytes the text has; a refusal, and 0
abbrev pub written_of : Result ℕ Refusal → Written
written_of (Ok size) = record { number = done; size = size }
written_of (Err r) = record { number = number_of r; size = 0 }

-- no two answers stand for the same
pub one_written : (r r' : Result ℕ Refusal) → written_of r ≡ written_of r' → r ≡ r'
one_written = told_apart written_of (λ w. w.number) (elim [ Ok size ↦ refl | Err r ↦ refl ]) (λ size size' e. ap (λ (w : Written). w.size) e)
