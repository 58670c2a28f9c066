-- The bits of a number, one at a time: those of an or, an and, a power of two and a complement, the bits above a bound, the number of ones,
-- and the node of a bit. Bit j + 1 of a number is bit j of its half, so the laws of powers and complements are inductions that halve; the
-- others come from the toolchain's laws of shifts (lib.Bits, lib.Pow) and of the number of ones (lib.Count). Assumes nothing.
use Rattle.std.specs.Prelude.{◌≡◌, refl, ◌≢◌, cond, ℕ, zero, suc, ◌+◌, ◌-◌, ◌/◌, ◌%◌, ◌^◌, ◌≤◌, ◌<◌, min, max, eqb}
use Rattle.std.proofs.Common.{ap, sym, ◌∙◌, add_comm, div-lt_iff_lt-mul, le_trans, mod-lt, pow-suc, one-add, sub-one, arith, pow_mono, pow_pos, shr_lt, shr-shr, le-leb}
use Rattle.std.proofs.Math.Nat.{div-eq_of_lt, zero-div}
use Rattle.std.specs.Int.Bits.{bit_or, bit_and, or_step, and_step}
use Rattle.std.proofs.lemmas.Nat.{or_shr, and_shr, ones_cat, mod-pow-add}
use Rattle.std.specs.Int.Count.{ones}
use Rattle.number.specs.Numbers.{node}
use Rattle.number.specs.Sizes.{most_nodes}
use Rattle.word.specs.Word.{bit, in_use}

-- bit j + 1 of a number is bit j of its half
half : (w j : ℕ) → bit w (suc j) ≡ bit (w / 2) j
half w j = ap (λ n. n % 2) (ap (λ k. w / 2 ^ k) (omega arith) ∙ sym (shr-shr w 1 j))

-- half of a power of two is the power before it
halved : (i : ℕ) → 2 ^ suc i / 2 ≡ 2 ^ i
halved i = omega (arith, pow-suc 2 i)

-- 0 has no bit.
pub bit_zero : (j : ℕ) → bit 0 j ≡ 0
bit_zero j = ap (λ n. n % 2) (zero-div (2 ^ j))

-- A bit of an or is the larger of the two bits.
pub bit_or_lem : (a b j : ℕ) → bit (bit_or a b) j ≡ max (bit a j) (bit b j)
bit_or_lem a b j = rw (or_shr a b j, or_step (a / 2 ^ j) (b / 2 ^ j)) (omega arith)

-- A bit of an and is the smaller of the two bits.
pub bit_and_lem : (a b j : ℕ) → bit (bit_and a b) j ≡ min (bit a j) (bit b j)
bit_and_lem a b j = rw (and_shr a b j, and_step (a / 2 ^ j) (b / 2 ^ j)) (omega arith)

-- Bit i of 2 ^ i is 1.
pub bit_pow_same : (i : ℕ) → bit (2 ^ i) i ≡ 1
bit_pow_same zero = refl
bit_pow_same (suc i) = half (2 ^ suc i) i ∙ ap (λ w. bit w i) (halved i) ∙ bit_pow_same i

-- Every other bit of 2 ^ i is 0.
pub bit_pow_other : (i j : ℕ) → i ≢ j → bit (2 ^ i) j ≡ 0
bit_pow_other zero zero n = absurd (n refl)
bit_pow_other zero (suc j) n = half 1 j ∙ bit_zero j
bit_pow_other (suc i) zero n = omega (arith, pow-suc 2 i)
bit_pow_other (suc i) (suc j) n = half (2 ^ suc i) j ∙ ap (λ w. bit w j) (halved i) ∙ bit_pow_other i j (λ e. n (ap suc e))

-- In the complement of a number of k bits each of the k bits is the other digit.
pub bit_not : (k w j : ℕ) → j < k → w < 2 ^ k → bit (2 ^ k - 1 - w) j + bit w j ≡ 1
bit_not zero w j h g = absurd (omega arith)
bit_not (suc k) w zero h g = omega (arith, pow-suc 2 k)
bit_not (suc k) w (suc j) h g =
    let e : (2 ^ suc k - 1 - w) / 2 ≡ 2 ^ k - 1 - w / 2 = omega (arith, pow-suc 2 k) in
    rw (half (2 ^ suc k - 1 - w) j, half w j, e) (bit_not k (w / 2) j (omega arith) (omega (arith, pow-suc 2 k)))

-- A number below 2 ^ m has no bit from m up.
pub bit_above : (w m j : ℕ) → w < 2 ^ m → m ≤ j → bit w j ≡ 0
bit_above w m j h l = ap (λ n. n % 2) (div-eq_of_lt (le_trans h (pow_mono l)))

-- A number of which nothing is left without its m lowest bits is below 2 ^ m.
pub bits_below : (w m : ℕ) → w / 2 ^ m ≡ 0 → w < 2 ^ m
bits_below w m e = omega (arith, (div-lt_iff_lt-mul {x = w} {y = 1} (pow_pos m)).0 (omega arith))

-- A number of m + 1 bits of which bit m is 0 has m bits.
pub bit_top : (w m : ℕ) → w < 2 ^ suc m → bit w m ≡ 0 → w < 2 ^ m
bit_top w m h e = let q : w / 2 ^ m < 2 = shr_lt 1 m (rw one-add h) in bits_below w m (omega arith)

-- what holds of 0 and of 1 holds of a digit
digit : (P : ℕ → Type 0) → P 0 → P 1 → (d : ℕ) → d < 2 → P d
digit P a b zero h = a
digit P a b (suc zero) h = b
digit P a b (suc (suc d)) h = absurd (omega arith)

-- a digit is its own number of ones
ones_digit : (d : ℕ) → d < 2 → ones d ≡ d
unfolding ones
ones_digit = digit (λ d. ones d ≡ d) refl refl

-- The ones among the k + 1 lowest bits are those among the k lowest, and bit k.
pub bit_count : (w k : ℕ) → ones (w % 2 ^ suc k) ≡ ones (w % 2 ^ k) + bit w k
bit_count w k =
    ap (λ n. ones (w % 2 ^ n)) (sym (one-add k)) ∙ ap ones (mod-pow-add w 1 k) ∙ ones_cat k (bit w k) (w % 2 ^ k) (mod-lt w (pow_pos k))
    ∙ ap (λ n. n + ones (w % 2 ^ k)) (ones_digit (bit w k) (omega arith)) ∙ add_comm (bit w k) (ones (w % 2 ^ k))

-- a digit is what its test says, counted 1 or 0
test_digit : (d : ℕ) → d < 2 → cond (eqb d 1) 1 0 ≡ d
test_digit = digit (λ d. cond (eqb d 1) 1 0 ≡ d) refl refl

-- Node j + 1 is in use, counted 1 or 0, as bit j says.
pub in_bit : (w j : ℕ) → j < most_nodes → cond (in_use w (node (suc j))) 1 0 ≡ bit w j
unfolding in_use
in_bit w j l = rw (le-leb 1 (suc j) (omega arith), le-leb (suc j) most_nodes l, sub-one (suc j)) (test_digit (bit w j) (omega arith))
