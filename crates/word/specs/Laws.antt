-- What callers use of the word of nodes in use: which nodes are in use after one is put in or taken out, the words of which no bit is set
-- from K up, and how many are in use. The word that is put in or taken out has one bit, so each law on a node is one of that bit; the laws
-- on how many follow from those on a node alone. Rests on Bits. Assumes nothing.
use Rattle.std.specs.Prelude.{◌≡◌, ◌≢◌, Bool, true, false, cond, ◌&&◌, eqb, leb}
use Rattle.std.proofs.Math.Path.{refl}
use Rattle.std.proofs.Common.{ap, sym, ◌∙◌, add-suc, add-zero, eq-or-lt_of_le, le_trans, arith, pow_mono, pow_pos, eq-eqb, eqb-true, le-leb, leb-true}
use Rattle.std.proofs.Math.Logic.{⊎_elim}
use Prim.Native.Nat.{ℕ, zero, suc, ◌+◌, ◌-◌, ◌/◌, ◌^◌, ◌≤◌, ◌<◌, min}
use Rattle.std.proofs.Math.Nat.{div-eq_of_lt}
use Rattle.std.proofs.lemmas.Nat.{and_le_l, or_lt}
use Rattle.std.proofs.Math.Pow.{pow-lt}
use Rattle.number.specs.Numbers.{node}
use Rattle.number.specs.Sizes.{most_nodes}
use Rattle.number.specs.Tests.{first_holds, second_holds}
use Rattle.number.specs.declared.NodeNo.{NodeNo}
use Rattle.word.specs.Word.{alone_in, bit, has_bit, how_many, how_many_to, in_use, none_from, put_in, take_out}
use Rattle.word.specs.Bits.{bit_above, bit_and_lem, bit_not, bit_or_lem, bit_pow_other, bit_pow_same, bit_top, bit_zero, bits_below, in_bit}

-- ---- two tests that must both pass

-- the second matters only where the first passes
second : (a b c : Bool) → (a ≡ true → b ≡ c) → (a && b) ≡ (a && c)
second true b c f = f refl
second false b c f = refl

-- a second that fails fails them
fails : (a : Bool) → (a && false) ≡ false
fails true = refl
fails false = refl

-- ---- a node and its bit

-- a node that has a bit is one of 1 to 32
bit_range : (k : NodeNo) → has_bit k ≡ true → (1 ≤ k.0) × (k.0 ≤ most_nodes)
bit_range k h = (leb-true _ _ (first_holds _ _ h), leb-true _ _ (second_holds (leb 1 k.0) _ h))

-- a node that has a bit is in use where the bit is 1
in_set : (w : ℕ) (k : NodeNo) → has_bit k ≡ true → bit w (k.0 - 1) ≡ 1 → in_use w k ≡ true
unfolding in_use
in_set w k h e = rw (h, e)

-- a node is not in use where its bit, if it has one, is 0
in_clear : (w : ℕ) (k : NodeNo) → (has_bit k ≡ true → bit w (k.0 - 1) ≡ 0) → in_use w k ≡ false
unfolding in_use
in_clear w k f = second (has_bit k) (eqb (bit w (k.0 - 1)) 1) false (λ h. ap (λ x. eqb x 1) (f h)) ∙ fails (has_bit k)

-- in two words that agree on its bit, a node is in use in both or in neither
in_same : (u w : ℕ) (k : NodeNo) → (has_bit k ≡ true → bit u (k.0 - 1) ≡ bit w (k.0 - 1)) → in_use u k ≡ in_use w k
unfolding in_use
in_same u w k f = second (has_bit k) (eqb (bit u (k.0 - 1)) 1) (eqb (bit w (k.0 - 1)) 1) (λ h. ap (λ x. eqb x 1) (f h))

-- ---- the word in which node k alone is in use

-- it is a power of two, or 0 where k has no bit
alone_case : (P : ℕ → Type 0) (k : NodeNo) → (has_bit k ≡ true → P (2 ^ (k.0 - 1))) → P 0 → P (alone_in k)
unfolding alone_in
alone_case P k f z = go (has_bit k) refl
  where
    go : (b : Bool) → has_bit k ≡ b → P (cond b (2 ^ (k.0 - 1)) 0)
    go true h = f h
    go false h = z

-- it is below 2 ^ m, where k is at most m or has no bit
alone_fits : (k : NodeNo) (m : ℕ) → (has_bit k ≡ true → k.0 ≤ m) → alone_in k < 2 ^ m
alone_fits k m f = alone_case (λ x. x < 2 ^ m) k (λ h. let r = bit_range k h in let l = f h in pow-lt (omega arith)) (pow_pos m)

-- its bit k - 1 is 1
alone_same : (k : NodeNo) → has_bit k ≡ true → bit (alone_in k) (k.0 - 1) ≡ 1
unfolding alone_in
alone_same k h = rw h (bit_pow_same (k.0 - 1))

-- the bit of every other node is 0
alone_other : (k j : NodeNo) → j.0 ≢ k.0 → has_bit j ≡ true → bit (alone_in k) (j.0 - 1) ≡ 0
alone_other k j n g =
    alone_case (λ x. bit x (j.0 - 1) ≡ 0) k
    (λ h. let r = bit_range k h in let s = bit_range j g in bit_pow_other (k.0 - 1) (j.0 - 1) (omega arith))
    (bit_zero (j.0 - 1))

-- a bit of w with node k taken out: 0 where the word of node k alone has a 1, and otherwise what it was
take_bit : (w : ℕ) (j k : NodeNo) → has_bit j ≡ true → bit (take_out w k) (j.0 - 1) ≡ min (bit w (j.0 - 1)) (1 - bit (alone_in k) (j.0 - 1))
unfolding take_out
take_bit w j k h =
    let r = bit_range j h in
    let l = alone_fits k 32 (λ g. (bit_range k g).1) in
    let e = bit_not 32 (alone_in k) (j.0 - 1) (omega arith) l in
    rw (bit_and_lem w (2 ^ 32 - 1 - alone_in k) (j.0 - 1)) (omega arith)

-- ---- the laws

-- In the word 0 no node is in use.
pub in_none : (k : NodeNo) → in_use 0 k ≡ false
in_none k = in_clear 0 k (λ h. bit_zero (k.0 - 1))

-- A node that is put in is in use.
pub in_put_same : (w : ℕ) (k : NodeNo) → has_bit k ≡ true → in_use (put_in w k) k ≡ true
unfolding put_in
in_put_same w k h = in_set (put_in w k) k h (rw (bit_or_lem w (alone_in k) (k.0 - 1), alone_same k h) (omega arith))

-- Putting a node in leaves every other node as it was.
pub in_put_other : (w : ℕ) (j k : NodeNo) → j.0 ≢ k.0 → in_use (put_in w k) j ≡ in_use w j
unfolding put_in
in_put_other w j k n = in_same (put_in w k) w j (λ h. rw (bit_or_lem w (alone_in k) (j.0 - 1), alone_other k j n h) (omega arith))

-- A node that is taken out is not in use.
pub in_take_same : (w : ℕ) (k : NodeNo) → in_use (take_out w k) k ≡ false
in_take_same w k = in_clear (take_out w k) k (λ h. rw (take_bit w k k h, alone_same k h) (omega arith))

-- Taking a node out leaves every other node as it was.
pub in_take_other : (w : ℕ) (j k : NodeNo) → j.0 ≢ k.0 → in_use (take_out w k) j ≡ in_use w j
in_take_other w j k n = in_same (take_out w k) w j (λ h. rw (take_bit w j k h, alone_other k j n h) (omega arith))

-- The nodes 1 to 32 have a bit.
pub has_bit_lem : (k : NodeNo) → 1 ≤ k.0 → k.0 ≤ most_nodes → has_bit k ≡ true
has_bit_lem k a b = rw (le-leb 1 k.0 a, le-leb k.0 most_nodes b)

-- A node in use is one of 1 to 32.
pub in_has_bit : (w : ℕ) (k : NodeNo) → in_use w k ≡ true → (1 ≤ k.0) × (k.0 ≤ most_nodes)
unfolding in_use
in_has_bit w k h = bit_range k (first_holds _ _ h)

-- A word with no bit from m up is below 2 ^ m.
pub none_from_lem : (w m : ℕ) → none_from w m ≡ true → w < 2 ^ m
none_from_lem w m h = bits_below w m (eqb-true (w / 2 ^ m) 0 h)

-- A word below 2 ^ m has no bit from m up.
pub from_none : (w m : ℕ) → w < 2 ^ m → none_from w m ≡ true
from_none w m h = eq-eqb (w / 2 ^ m) 0 (div-eq_of_lt h)

-- In a word with no bit from m up no node above m is in use.
pub none_in : (w m : ℕ) → none_from w m ≡ true → (k : NodeNo) → m < k.0 → in_use w k ≡ false
none_in w m h k l = in_clear w k (λ g. bit_above w m (k.0 - 1) (none_from_lem w m h) (omega arith))

-- A word of 32 bits in which no node above m is in use has no bit from m up.
pub in_none_from : (w m : ℕ) → w < 2 ^ 32 → ((k : NodeNo) → m < k.0 → in_use w k ≡ false) → none_from w m ≡ true
in_none_from w m h f = from_none w m (down (32 - m) (omega arith) (le_trans h (pow_mono {i = 32} (omega arith))))
  where
    clear : (n : ℕ) → m ≤ n → n < most_nodes → bit w n ≡ 0
    clear n g l = sym (in_bit w n l) ∙ ap (λ b. cond b 1 0) (f (node (suc n)) (omega arith))

    down : (n : ℕ) → n ≤ 32 - m → w < 2 ^ (m + n) → w < 2 ^ m
    down zero l g = rw add-zero at g
    down (suc n) l g = down n (omega arith) (bit_top w (m + n) (rw add-suc at g) (clear (m + n) (omega arith) (omega arith)))

-- Putting in a node up to m leaves a word below 2 ^ m there.
pub put_fits : (w m : ℕ) (k : NodeNo) → w < 2 ^ m → k.0 ≤ m → put_in w k < 2 ^ m
unfolding put_in
put_fits w m k h l = or_lt m w (alone_in k) h (alone_fits k m (λ g. l))

-- Taking a node out leaves a word below 2 ^ m there.
pub take_fits : (w m : ℕ) (k : NodeNo) → w < 2 ^ m → take_out w k < 2 ^ m
unfolding take_out
take_fits w m k h = omega (arith, and_le_l w (2 ^ 32 - 1 - alone_in k))

-- ---- two words in which the same nodes are in use, but for node k
module _ (u w : ℕ) (k : NodeNo) (other : (j : NodeNo) → j.0 ≢ k.0 → in_use w j ≡ in_use u j) where
  -- below k as many are in use
  below : (m : ℕ) → m < k.0 → how_many_to m w ≡ how_many_to m u
  unfolding how_many_to
  below zero l = refl
  below (suc m) l = rw (below m (omega arith), other (node (suc m)) (omega arith))

  -- where k is in use in w and not in u, from k on w has one more
  one_more : in_use u k ≡ false → in_use w k ≡ true → 1 ≤ k.0 → (m : ℕ) → k.0 ≤ m → how_many_to m w ≡ suc (how_many_to m u)
  unfolding how_many_to
  one_more p q a zero l = absurd (omega arith)
  one_more p q a (suc m) l =
      ⊎_elim
      (λ e. rw (← e, below m (omega arith), p, q) (omega arith))
      (λ g. rw (one_more p q a m (omega arith), other (node (suc m)) (omega arith)) (omega arith))
      (eq-or-lt_of_le l)

-- Putting in a node that was not in use makes one more.
pub how_many_put : (w : ℕ) (k : NodeNo) → has_bit k ≡ true → in_use w k ≡ false → how_many (put_in w k) ≡ suc (how_many w)
how_many_put w k h f =
    let r = bit_range k h in
    one_more w (put_in w k) k (λ j n. in_put_other w j k n) f (in_put_same w k h) r.0 most_nodes r.1

-- Taking out a node that was in use makes one fewer.
pub how_many_take : (w : ℕ) (k : NodeNo) → in_use w k ≡ true → suc (how_many (take_out w k)) ≡ how_many w
how_many_take w k h =
    let r = in_has_bit w k h in
    sym (one_more (take_out w k) w k (λ j n. sym (in_take_other w j k n)) (in_take_same w k) h r.0 most_nodes r.1)
