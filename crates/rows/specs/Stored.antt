-- Laws of stores: bytes that are stored one after the other, from the list library's `sets` (a list of values stored from a place on).
-- By induction over what is stored. Assumes nothing.
use mathlib.Core.List.{List, [], ◌∷◌, ◌++◌, append_assoc, append-nil}
use Rattle.std.specs.Prelude.{◌≡◌, drop, get_or, length, set, take}
use Rattle.std.proofs.Math.Path.{ap, sym}
use Rattle.std.proofs.Common.{◌∙◌, mul-le-mul_left, mul-zero, zero-add, add-one, arith, drop_of_length-le, drop-cons, get_or-append-add, get_or-drop}
use Rattle.std.proofs.Common.{le_of_lt, length-take-le, take-suc}
use Prim.Native.Nat.{ℕ, zero, suc, ◌+◌, ◌-◌, ◌*◌, ◌≤◌, ◌<◌}
use Rattle.std.proofs.Math.Nat.{mul-suc}
use Rattle.std.proofs.Math.ListN.{get_or-append, length-append}
use Rattle.std.proofs.Math.Seq.{append_snoc}
use Rattle.std.proofs.lemmas.List.{set_at}
use Rattle.std.proofs.lemmas.List.Edits.{sets, sets-eq}
use Rattle.rows.specs.Rows.{over, times}

-- Storing p and then q behind it is storing both.
pub sets_append : (o : List ℕ) (at : ℕ) (p q : List ℕ) → sets o at (p ++ q) ≡ sets (sets o at p) (at + length p) q
sets_append o at [] q = ap (λ (n : ℕ). sets o n q) (omega arith)
sets_append o at (v ∷ p) q =
    sets_append (set o at v) (suc at) p q ∙ ap (λ (n : ℕ). sets (sets (set o at v) (suc at) p) n q) (omega arith)

-- What is stored from the start on lies over what was there.
pub sets_over : (vs o : List ℕ) → length vs ≤ length o → sets o 0 vs ≡ over vs o
sets_over vs o h =
    let z : 0 + length vs ≤ length o = omega arith in
    rw (sets-eq vs o 0 z, zero-add (length vs))

-- A turn of the loop that stores bytes: one byte more of r stands from `at` on.
pub byte_more : (o : List ℕ) (at i : ℕ) (r : List ℕ) → i < length r →
    set (sets o at (take i r)) (at + i) (get_or r i 0) ≡ sets o at (take (i + 1) r)
byte_more o at i r h =
    let l : length (take i r) ≡ i = length-take-le i r (le_of_lt h) in
    rw (add-one i, take-suc r i 0 h, sets_append o at (take i r) (get_or r i 0 ∷ []), l)

-- ---- copies of r
module _ (r : List ℕ) where
  length_times : (n : ℕ) → length (times n r) ≡ length r * n
  unfolding times
  length_times zero = sym (mul-zero (length r))
  length_times (suc n) = length-append r (times n r) ∙ omega (arith, length_times n, mul-suc (length r) n)

  times_more : (n : ℕ) → times (suc n) r ≡ times n r ++ r
  unfolding times
  times_more zero = append-nil r
  times_more (suc n) = ap (λ (l : List ℕ). r ++ l) (times_more n) ∙ sym (append_assoc r (times n r) r)

  -- A turn of the loop that stores copies: one more stands behind the first i.
  pub copy_more : (o : List ℕ) (at i : ℕ) → sets (sets o at (times i r)) (at + length r * i) r ≡ sets o at (times (i + 1) r)
  copy_more o at i = rw (add-one i, times_more i, sets_append o at (times i r) r, length_times i)

  -- Copy i of n ends where the copies end, or before.
  pub copy_fits : (i n : ℕ) → i < n → length r * i + length r ≤ length r * n
  copy_fits i n h = rw (← mul-suc (length r) i) (mul-le-mul_left (length r) h)

-- ---- vs over o
module _ (vs o : List ℕ) where
  -- Byte i is that of vs as far as vs goes ..
  pub over_at : (i : ℕ) → i < length vs → get_or (over vs o) i 0 ≡ get_or vs i 0
  over_at i l = get_or-append vs (drop (length vs) o) 0 i l

  -- .. and from there on that of o.
  pub over_later : (i : ℕ) → length vs ≤ i → get_or (over vs o) i 0 ≡ get_or o i 0
  over_later i l =
      let far : length vs + (i - length vs) ≡ i = omega arith in
      rw far at (get_or-append-add vs (drop (length vs) o) (i - length vs) 0 ∙ get_or-drop (length vs) o (i - length vs) 0)

  -- Over no more bytes than its own it is all there is.
  pub over_all : length o ≤ length vs → over vs o ≡ vs
  over_all l = rw (drop_of_length-le o l) (append-nil vs)

-- A turn of a loop that fills a table from the front: the first n places hold p, and the next takes v.
pub set_behind : {A : Type 0} (p xs : List A) (n : ℕ) (v d : A) → length p ≡ n → n < length xs
    → set (p ++ drop n xs) n v ≡ (p ++ v ∷ []) ++ drop (n + 1) xs
set_behind p xs n v d l h =
    rw (add-one n, drop-cons xs n d h, set_at p (get_or xs n d) (drop (suc n) xs) v n l) (sym (append_snoc p v (drop (suc n) xs)))
