-- "given exactly when", as facts: the conditions of a call, each with its number, and which of them is "The first that applies, in this order". The
-- tests that the code makes are in Refused; FirstThat has the law that the two give the same number. Assumes nothing.
use Rattle.std.specs.Prelude.{List, [], ◌∷◌, ◌⊎◌, ◌≡◌, ℕ}
use Rattle.number.specs.Refused.{done}

infix 68 ◌given-when◌
-- a number, and the condition under which it is given
pub record Condition : Type 1 where
  pub number : ℕ
  pub applies : Type 0

abbrev pub ◌given-when◌ : ℕ → Type 0 → Condition
number given-when condition = record { number = number; applies = condition }

-- none of them applies
abbrev pub NoneApply : List Condition → Type 0
NoneApply [] = Unit {0}
NoneApply (c ∷ cs) = (¬ c.applies) × NoneApply cs

-- "The first that applies, in this order, is given": m is the number of the first condition that applies, and 0 if none does
abbrev pub First : List Condition → ℕ → Type 0
First [] m = m ≡ done
First (c ∷ cs) m = (c.applies × (m ≡ c.number)) ⊎ ((¬ c.applies) × First cs m)
