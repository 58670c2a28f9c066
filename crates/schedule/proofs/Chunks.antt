-- The records behind a schedule's heading, as `chunks_exact` gives them: one after the other, each its four bytes (`records_of`). So a test of the mark of
-- each is the test of the events (`marks_lem`). By induction over the records. Assumes nothing.
use Rattle.std.specs.Prelude.{Bool, ◌&&◌, ◌≡◌, length, ◌/◌}
use Rattle.std.proofs.Common.{arith, refl, sym, ap, ◌∙◌, drop, eqb, get_or, length-append, length-drop, take, drop_at, take_at, false, true}
use Rattle.std.proofs.Math.Bool.{and-true}
use Rattle.std.proofs.lemmas.Bool.Decides.{nat_tests}
use Rattle.std.proofs.lemmas.Iterator.{YieldsList}
use Rattle.std.specs.Iterator.{AlwaysYields}
use Rattle.std.specs.List.{fold, list_all, starts_with}
use Rattle.std.specs.Simd.{first_chunks}
use Rattle.std.specs.Slice.Iter.{chunks_exact_rest, chunks_exact_size, chunks_exact_steps}
use Rattle.std.specs.declared.slice.ChunksExact.{ChunksExact}
use mathlib.Core.List.{List, [], ◌∷◌, ◌++◌}
use Prim.Native.Nat.{ℕ, zero, suc}
use Rattle.rows.specs.Rows.{all_good, letter_e, letter_s}
use Rattle.schedule.specs.Schedule.{event_record, width}

records_lem : (k : ℕ) (s : ChunksExact ℕ) (r : List ℕ) → chunks_exact_rest s ≡ r → chunks_exact_size s ≡ width → length r / width ≡ k
    → AlwaysYields chunks_exact_steps (λ y. y.now) s (first_chunks width k r)
records_lem zero s r is size many = λ x j step. absurd (omega (arith, step.1.1, ap length is, ap length step.1.0, length-append x.now (chunks_exact_rest j)))
records_lem (suc k) s r is size many = (
  λ j step. absurd (omega (arith, step.1.0, ap length is)),
  λ x j step.
      let long : length x.now ≡ width = step.1.1 ∙ size in
      let parts : r ≡ x.now ++ chunks_exact_rest j = sym is ∙ step.1.0 in
      let later : chunks_exact_rest j ≡ drop width r = sym (rw parts (drop_at x.now (chunks_exact_rest j) width long)) in
      let left : length (drop width r) / width ≡ k = omega (arith, many, length-drop width r) in
      (sym (rw parts (take_at x.now (chunks_exact_rest j) width long)), records_lem k j (drop width r) later (step.0 ∙ size) left),
)

pub records_of : {s : ChunksExact ℕ} (r : List ℕ) → chunks_exact_rest s ≡ r → chunks_exact_size s ≡ width
    → YieldsList chunks_exact_steps (λ y. y.now) s (first_chunks width (length r / width) r)
records_of {s} r is size = record { runs = records_lem (length r / width) s r is size refl }

-- the test of a mark, of a record and of what stands from there on
abbrev pub mark_test : List ℕ → Bool
mark_test r = starts_with eqb r (letter_s ∷ letter_e ∷ [])

-- a record more, behind those that were tested
abbrev pub mark_more : Bool → List ℕ → Bool
mark_more ok r = ok && mark_test r

-- Tests that are folded are the test of all.
pub folded : (ok : Bool) (rs : List (List ℕ)) → fold mark_more ok rs ≡ ok && list_all mark_test rs
folded true [] = refl
folded false [] = refl
folded true (r ∷ rs) = folded (mark_test r) rs
folded false (r ∷ rs) = folded false rs

same_test : (a b : ℕ) → eqb a b ≡ eqb b a
same_test a b = grind (arith, nat_tests)

mark_lem : (r : List ℕ) → mark_test (take width r) ≡ (eqb (get_or r 0 0) letter_s && eqb (get_or r 1 0) letter_e) && true
mark_lem [] = refl
mark_lem (x ∷ []) = rw (same_test letter_s x) (sym (and-true (eqb x letter_s && false)))
mark_lem (x ∷ y ∷ r) = rw (same_test letter_s x, same_test letter_e y, and-true (eqb y letter_e)) (sym (and-true (eqb x letter_s && eqb y letter_e)))

pub marks_lem : (k : ℕ) (r : List ℕ) → list_all mark_test (first_chunks width k r) ≡ all_good event_record k r
unfolding all_good
marks_lem zero r = refl
marks_lem (suc k) r = rw (mark_lem r, marks_lem k (drop width r))
