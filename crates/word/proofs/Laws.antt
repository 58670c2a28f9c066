-- How many nodes are in use is the number of ones: by induction on the nodes, each of which counts as much as its bit. And a word has no bit
-- past the most nodes. Rests on Bits. Assumes nothing.
use mathlib.Core.Path.{◌≡◌, ap, sym, ◌∙◌}
use Prim.Native.Nat.{ℕ, zero, suc, ◌%◌, ◌^◌, ◌≤◌, ◌<◌}
use native.Mathlib.Nat.{mod-eq_of_lt, mod-one}
use native.Mathlib.Omega.{arith}
use lib.Count.{ones}
use Rattle.number.specs.Sizes.{most_nodes}
use Rattle.std.proofs.Common.{true, le_trans, pow_mono}
use Rattle.word.specs.Laws.{from_none}
use Rattle.word.specs.Word.{how_many, how_many_to, none_from}
use Rattle.word.specs.Bits.{bit_count, in_bit}

-- as many of the nodes 1 to k are in use as there are ones among the k lowest bits
ones_to : (w k : ℕ) → k ≤ most_nodes → ones (w % 2 ^ k) ≡ how_many_to k w
unfolding ones how_many_to
ones_to w zero l = ap ones (mod-one w)
ones_to w (suc k) l = rw (bit_count w k, ones_to w k (omega arith), in_bit w k l)

-- A word of 32 bits has as many ones as nodes are in use.
pub ones_how_many : (w : ℕ) → w < 2 ^ 32 → ones w ≡ how_many w
ones_how_many w h = ap ones (sym (mod-eq_of_lt h)) ∙ ones_to w most_nodes (omega arith)

-- A word of 32 bits has no bit from a number above 32 up.
pub none_from_most : (w K : ℕ) → w < 2 ^ 32 → most_nodes < K → none_from w K ≡ true
none_from_most w K h l = from_none w K (le_trans h (pow_mono {i = 32} (omega arith)))
