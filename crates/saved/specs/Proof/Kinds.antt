-- What the code that is said once, for any kind of record, rests on: the records of nodes and those of threads are kinds of record with their widths
-- and letters, and what a turn of each loop over records does. Rests on Records, and on the loops of `rows`. Assumes nothing.
use Rattle.std.specs.Prelude.{Bool, ◌&&◌, List, ◌++◌, ◌≡◌, refl, ℕ, ◌+◌, ◌-◌, ◌*◌, ◌<◌, drop, get_or, length, set, take}
use Rattle.std.proofs.Common.{◌∙◌, add-one, ap, arith}
use Rattle.std.proofs.lemmas.List.Edits.{sets}
use Rattle.std.proofs.lemmas.Slice.{between_to_end}
use Rattle.lock.specs.Valid.{node_in_range, thread_in_range}
use Rattle.rows.specs.Loops.{judge_more, put_more, read_more}
use Rattle.rows.specs.Rows.{Kind, all_good, good, laid, letter_n, letter_t, values}
use Rattle.saved.specs.Inner.{IsRecord}
use Rattle.saved.specs.Proof.Records.{node_lawful, thread_lawful}
use Rattle.saved.specs.Saved.{node_record, node_width, thread_record, thread_width}

pub node_is_record : (K : ℕ) → IsRecord node_width letter_n (node_in_range K) (node_record K)
node_is_record K = record { wide = refl; mark₁ = refl; mark₂ = refl; marked = omega arith; ranged = λ v. refl; lawful = node_lawful K }

pub thread_is_record : (K : ℕ) → IsRecord thread_width letter_t (thread_in_range K) (thread_record K)
thread_is_record K = record { wide = refl; mark₁ = refl; mark₂ = refl; marked = omega arith; ranged = λ v. refl; lawful = thread_lawful K }

-- ---- a turn of each loop over records. The part of b from a place on is written as the code's slices have it.
abbrev pub from_place : ℕ → List ℕ → List ℕ
from_place at b = take (length b - at) (drop at b)

pub from_there : (at : ℕ) (b : List ℕ) → from_place at b ≡ drop at b
from_there at b = between_to_end b at (length b) (omega arith)

module _ {A : Type 0} {width letter : ℕ} {in_range : A → Bool} (kind : Kind A) (is : IsRecord width letter in_range kind) where
  there : (i : ℕ) (b : List ℕ) → from_place (width * i) b ≡ drop (kind.width * i) b
  there i b = rw (← is.wide) (from_there (kind.width * i) b)

  -- One record more is judged.
  pub judged_more : (n : ℕ) (b : List ℕ) → (all_good kind n b && good kind (from_place (width * n) b)) ≡ all_good kind (n + 1) b
  judged_more n b = rw (add-one n, there n b) (judge_more kind n b)

  -- One place more is filled.
  pub filled_more : (n : ℕ) (b : List ℕ) (xs ys : List A) (x : A) → n < length xs → ys ≡ values kind n b ++ drop n xs
      → x ≡ kind.value (from_place (width * n) b) → set ys n x ≡ values kind (n + 1) b ++ drop (n + 1) xs
  filled_more n b xs ys x l before here = rw (before, here, there n b) (read_more kind n b xs x l)

  -- One record more is stored.
  pub stored_more : (o o' : List ℕ) (at i : ℕ) (xs : List A) (x : A) (r : List ℕ) → i < length xs → o' ≡ sets o at (laid kind (take i xs))
      → x ≡ get_or xs i x → r ≡ kind.bytes x → sets o' (at + width * i) r ≡ sets o at (laid kind (take (i + 1) xs))
  stored_more o o' at i xs x r l before here written =
      let same = ap (λ (v : A). sets (sets o at (laid kind (take i xs))) (at + kind.width * i) (kind.bytes v)) here in
      rw (written, before, ← is.wide) (same ∙ put_more kind is.lawful o at i xs x l)
