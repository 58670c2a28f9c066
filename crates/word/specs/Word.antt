-- Document 01, "The state": "The nodes in use are one 32-bit word, bit k-1 for node k; how many are in use can be asked, and is the number of
-- ones." Laws.antt says which nodes are in use after one is put in or taken out. Assumes nothing.
use Rattle.std.specs.Prelude.{Bool, cond, ◌&&◌, ℕ, zero, suc, ◌+◌, ◌-◌, ◌/◌, ◌%◌, ◌^◌, eqb, leb}
use Rattle.std.specs.Int.Bits.{bit_and, bit_or}
use Rattle.number.specs.Numbers.{node}
use Rattle.number.specs.Sizes.{most_nodes}
use Rattle.number.specs.declared.NodeNo.{NodeNo}

-- bit j of w, 1 or 0
abbrev pub bit : ℕ → ℕ → ℕ
bit w j = w / 2 ^ j % 2

-- the numbers that have a bit: 1 to 32
abbrev pub has_bit : NodeNo → Bool
has_bit k = leb 1 k.0 && leb k.0 most_nodes

-- node k is in use: bit k - 1 is 1
unfoldable pub in_use : ℕ → NodeNo → Bool
in_use w k = has_bit k && eqb (bit w (k.0 - 1)) 1

-- the word in which node k alone is in use; a number that has no bit is in none
unfoldable pub alone_in : NodeNo → ℕ
alone_in k = cond (has_bit k) (2 ^ (k.0 - 1)) 0

-- the word with bit k - 1 set
unfoldable pub put_in : ℕ → NodeNo → ℕ
put_in w k = bit_or w (alone_in k)

-- the word with bit k - 1 clear
unfoldable pub take_out : ℕ → NodeNo → ℕ
take_out w k = bit_and w (2 ^ 32 - 1 - alone_in k)

-- how many of the nodes 1 to k are in use
unfoldable pub how_many_to : ℕ → ℕ → ℕ
how_many_to zero w = 0
how_many_to (suc k) w = how_many_to k w + cond (in_use w (node (suc k))) 1 0

-- how many nodes are in use
abbrev pub how_many : ℕ → ℕ
how_many w = how_many_to most_nodes w

-- "Bits of the word from K up are 0."
abbrev pub none_from : ℕ → ℕ → Bool
none_from w nodes = eqb (w / 2 ^ nodes) 0
