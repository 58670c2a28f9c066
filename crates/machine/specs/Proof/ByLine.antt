-- What holds of each of the lines 11 to 29 holds of every line in their range. Assumes nothing.
use Rattle.std.specs.Prelude.{◌≡◌, ℕ, zero, suc, ◌+◌, ◌-◌, ◌≤◌, ◌<◌}
use Rattle.std.proofs.Common.{le_of_suc-le-suc, arith}

infixr 20 ◌also◌
-- one fact and then others
abbrev pub ◌also◌ : {X Y : Type 0} → X → Y → X × Y
x also y = (x, y)

-- P holds of the m numbers from i on
abbrev pub AllFrom : (ℕ → Type 0) → ℕ → ℕ → Type 0
AllFrom P i zero = Unit {0}
AllFrom P i (suc m) = P i × AllFrom P (suc i) m

all_at : (P : ℕ → Type 0) (i m : ℕ) → AllFrom P i m → (j : ℕ) → j < m → P (i + j)
all_at P i zero h j l = absurd (omega arith)
all_at P i (suc m) h zero l = let e : i + 0 ≡ i = omega arith in rw e h.0
all_at P i (suc m) h (suc j) l =
    let e : i + suc j ≡ suc i + j = omega arith in
    rw e (all_at P (suc i) m h.1 j (le_of_suc-le-suc l))

pub by_line : (P : ℕ → Type 0) → AllFrom P 11 19 → (l : ℕ) → 11 ≤ l → l ≤ 29 → P l
by_line P all l a b =
    let e : 11 + (l - 11) ≡ l = omega arith in
    rw e at (all_at P 11 19 all (l - 11) (omega arith))
