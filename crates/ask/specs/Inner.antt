-- What an inner function asks of the test that it is given, and what one gives. Assumes nothing.
use Rattle.std.specs.Prelude.{Bool, true, List, ◌≡◌, ℕ}
use Rattle.lock.specs.Valid.{Between}
use Rattle.lock.specs.declared.State.{State}
use Rattle.number.specs.Sizes.{first_line, last_line}
use Rattle.saved.specs.Saved.{saved_good, state_in}

-- At each of the nineteen lines a call may only return what `test` says of the line.
abbrev pub OfLine : (ℕ → Bool → Type 0) → (ℕ → Bool) → Type 0
OfLine returns test = (line : ℕ) (r : Bool) → Between first_line line last_line → returns line r → r ≡ test line

-- b is the saved state of s
pub record Holds (s : State) (b : List ℕ) : Type 0 where
  pub good : saved_good b ≡ true
  pub state : state_in b ≡ s
