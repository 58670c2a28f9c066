-- The laws by which the crate's functions are proved; those of its loops are over any element, so that the tables of nodes and of threads share them.
--     fill_more                 the loop that fills a table from the front is one unfolding of what it computes
--     up_to_parts               a table is judged in two parts
--     few_nodes, few_threads    T and K are at most the tables' size
-- Rests on Judged. Assumes nothing.
use mathlib.Core.Path.{◌≡◌, ap, refl}
use mathlib.Core.Bool.{Bool, true, ◌&&◌}
use mathlib.Core.List.{List, [], ◌∷◌, ◌++◌}
use Prim.Native.Nat.{ℕ, zero, suc, ◌+◌, ◌-◌, ◌≤◌, ◌<◌}
use native.Mathlib.Omega.{arith}
use lib.ListN.{drop, length-replicate, replicate, replicate-append-replicate, set, take}
use lib.Seq.{append_snoc, set_at}
use Rattle.std.specs.List.{list_all}
use Rattle.number.specs.Sizes.{most_nodes, most_threads}
use Rattle.lock.specs.Judged.{shared_rule}
use Rattle.lock.specs.Valid.{shared_valid, up_to}
use Rattle.lock.specs.declared.Shared.{Shared}

-- ---- a table of m places, of which the first i have v and the others d

-- a store of v at place i makes it one v more
pub fill_more : {A : Type 0} (v d : A) (m i : ℕ) → i < m → set (replicate i v ++ replicate (m - i) d) i v ≡ replicate (i + 1) v ++ replicate (m - (i + 1)) d
fill_more v d m i h =
    let e : m - i ≡ suc (m - (i + 1)) = omega arith in
    rw (e, set_at (replicate i v) d (replicate (m - (i + 1)) d) v i (length-replicate i v), ← replicate-append-replicate i 1 v, append_snoc (replicate i v) v)

-- ---- a table of which the first n elements are to pass one test, and the others another: both parts pass theirs
pub up_to_parts : {A : Type 0} (within past : A → Bool) (n : ℕ) (xs : List A)
    → up_to within past n xs ≡ (list_all within (take n xs) && list_all past (drop n xs))
up_to_parts within past zero [] = refl
up_to_parts within past (suc n) [] = refl
up_to_parts within past zero (x ∷ xs) = ap (λ b. past x && b) (up_to_parts within past zero xs)
up_to_parts within past (suc n) (x ∷ xs) = rw (up_to_parts within past n xs) (grind arith)

-- ---- shared numbers that pass their test: T and K are at most the tables' size
pub few_nodes : (sh : Shared) → shared_valid sh ≡ true → sh.nodes ≤ most_nodes
few_nodes sh h = (shared_rule sh h).nodes.to

pub few_threads : (sh : Shared) → shared_valid sh ≡ true → sh.threads ≤ most_threads
few_threads sh h = (shared_rule sh h).threads.to
