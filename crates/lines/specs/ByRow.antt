-- A test of each row of the table and its line number, computed over the nineteen rows, says it of every line 11 to 29. By induction over the rows.
-- Assumes nothing.
use Rattle.std.specs.Prelude.{Bool, true, false, ◌&&◌, List, [], ◌∷◌, ◌≡◌, ℕ, zero, suc, ◌+◌, ◌-◌, ◌≤◌, ◌<◌, get_or, length}
use Rattle.std.proofs.Common.{subst, le_of_suc-le-suc, le-ltb}
use native.Mathlib.Omega.{arith}
use Rattle.std.proofs.Math.Dec.{T}
use Rattle.lines.specs.Lines.{Line, line_at, lines, off_table}

-- a test of each row and its line number, over rows from line l on
abbrev pub all_from : (ℕ → Line → Bool) → ℕ → List Line → Bool
all_from test l [] = true
all_from test l (r ∷ rs) = test l r && all_from test (suc l) rs

both : (a b : Bool) → T (a && b) → T a × T b
both true b h = (tt, h)
both false b h = elim h [ ]

module _ (test : ℕ → Line → Bool) where
  row_at : (l : ℕ) (rs : List Line) → T (all_from test l rs) → (j : ℕ) → j < length rs → T (test (l + j) (get_or rs j off_table))
  row_at l [] h j p = absurd (omega arith)
  row_at l (r ∷ rs) h zero p = let e : l + 0 ≡ l = omega arith in rw e (both (test l r) _ h).0
  row_at l (r ∷ rs) h (suc j) p =
      let e : l + suc j ≡ suc l + j = omega arith in
      rw e (row_at (suc l) rs (both (test l r) _ h).1 j (le_of_suc-le-suc p))

  pub of_line : T (all_from test 11 lines) → (l : ℕ) → 11 ≤ l → l ≤ 29 → T (test l (line_at l))
  unfolding line_at
  of_line all l a b =
      let e : 11 + (l - 11) ≡ l = omega arith in
      rw (le-ltb l 11 a) (subst (λ (x : ℕ). T (test x (get_or lines (l - 11) off_table))) e (row_at 11 lines all (l - 11) (omega arith)))
