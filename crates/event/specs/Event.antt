-- One event on the bytes of a saved state: the answer and the bytes afterwards are those of the definition's inner step (`advance`, crate `machine`). Assumes
-- nothing.
use Rattle.std.specs.Prelude.{List, ◌≡◌, ℕ}
use Rattle.machine.specs.Step.{advance}
use Rattle.number.specs.declared.NodeNo.{NodeNo}
use Rattle.number.specs.declared.ThreadNo.{ThreadNo}
use Rattle.saved.specs.Saved.{bytes_of, state_in}

-- the answer r and the bytes b' are those of the event of thread t in the state that b holds; a refused event changes no byte, as its state is that of b
pub record Advanced (b b' : List ℕ) (t : ThreadNo) (n : NodeNo) (r : ℕ) : Type 0 where
  pub answer : r ≡ (advance (state_in b) t n).answer
  pub bytes : b' ≡ bytes_of (advance (state_in b) t n).state
