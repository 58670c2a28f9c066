-- What the number of a save says, and what is written by it; and that a state that passes its test has room. Each of the two tests says what its condition
-- says (FirstThat, crate `number`; Judged, crate `lock`). Assumes nothing.
use Rattle.std.specs.Prelude.{true, List, ◌≢◌, ◌↔◌, ◌≡◌, drop, take}
use Prim.Native.Nat.{ℕ, ◌≤◌}
use Rattle.std.proofs.Common.{arith, take_at}
use Rattle.std.proofs.Math.ListN.{length}
use Rattle.std.proofs.Math.Seq.{drop_at}
use borrow.Author.Tests.{eq-eqb, le-ltb, ltb-false, ne_eqb, not-false}
use Rattle.lock.specs.Judged.{judges_state, passed as state-passed, rule_valid, shared_rule, valid_rule}
use Rattle.lock.specs.Valid.{Sized, Valid, valid}
use Rattle.lock.specs.declared.State.{State}
use Rattle.number.specs.First.{First}
use Rattle.number.specs.FirstThat.{judges_short, none_holds, number_exactly}
use Rattle.number.specs.Refused.{done}
use Rattle.saved.specs.Proof.Size.{length_bytes}
use Rattle.saved.specs.Inner.{Room}
use Rattle.saved.specs.Saved.{bytes_of, save_conditions, save_number, save_refusals, saved_over, size_of}

module _ (s : State) (out : List ℕ) where
  -- ---- a state that passes its test has room in an output that is long enough
  pub room : valid s ≡ true → size_of s ≤ length out → Room s out
  room h long =
      let range = shared_rule s.shared (state-passed s h).shared in
      record { nodes = range.nodes.to; threads = range.threads.to; long = long }

  -- ---- 0: the state passes its test, and the output is long enough
  pub passed : save_number s out ≡ done → (valid s ≡ true) × (size_of s ≤ length out)
  unfolding save_number
  passed h = let off = none_holds (save_refusals s out) (omega arith) h in (not-false _ off.0, ltb-false _ _ off.1.0)

  -- ---- each number exactly when, for a state whose tables have their size
  module _ (sized : Sized s) where
    pub exactly : (m : ℕ) → (save_number s out ≡ m) ↔ First (save_conditions s out) m
    unfolding save_number
    exactly =
        number_exactly (save_refusals s out) (save_conditions s out)
        (judges_state s sized, λ j1. (judges_short (length out) (size_of s), λ j4. tt))

    pub done_exactly : (save_number s out ≡ done) ↔ (Valid s × (size_of s ≤ length out))
    unfolding save_number
    done_exactly = (
      λ h. let p = passed h in (valid_rule s sized p.0, p.1),
      λ h. rw (rule_valid s h.0, le-ltb (length out) (size_of s) h.1),
    )

    -- ---- what is written where the number is 0
    pub written : save_number s out ≡ done → let n = size_of s in (take n (saved_over s out) ≡ bytes_of s) × (drop n (saved_over s out) ≡ drop n out)
    unfolding saved_over
    written h =
        let n : ℕ = size_of s in
        let p = passed h in
        let r = room p.0 p.1 in
        let l : length (bytes_of s) ≡ n = length_bytes s sized r.nodes r.threads in
        rw (eq-eqb _ _ h, l) (take_at (bytes_of s) (drop n out) n l, drop_at (bytes_of s) (drop n out) n l)

  -- ---- nothing is written where it is not
  pub unchanged : save_number s out ≢ done → saved_over s out ≡ out
  unfolding saved_over
  unchanged h = rw (ne_eqb _ _ h)
