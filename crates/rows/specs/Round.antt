-- Reading what was written, and writing what was read, for every lawful kind of record. By induction over the records. Assumes nothing.
use Rattle.std.proofs.Math.Bool.{true}
use mathlib.Core.List.{List, [], ◌∷◌, ◌++◌, append_assoc}
use Rattle.std.specs.Prelude.{◌≡◌, drop, get_or, take}
use Rattle.std.proofs.Math.Path.{refl}
use Prim.Native.Nat.{ℕ, zero, suc, ◌+◌, ◌*◌, ◌≤◌}
use Rattle.std.proofs.Math.Nat.{mul-suc}
use Rattle.std.proofs.Common.{mul-zero, arith, length-drop, drop-cons, get_or-drop}
use Rattle.std.proofs.Math.ListN.{length}
use Rattle.std.proofs.Math.Seq.{drop_at, take-add}
use Rattle.number.specs.Tests.{both_hold, first_holds, second_holds}
use Rattle.rows.specs.Places.{mark_rule}
use Rattle.rows.specs.Rows.{Bytes, Kind, Lawful, all_good, all_in, good, laid, marked, values}

-- ---- the bytes of r from a place on, one by one, as a record reads and writes them
abbrev pub listed : ℕ → ℕ → List ℕ → List ℕ
listed zero i r = []
listed (suc n) i r = get_or r i 0 ∷ listed n (suc i) r

listed_part : (n i : ℕ) (r : List ℕ) → i + n ≤ length r → listed n i r ≡ take n (drop i r)
listed_part zero i r h = refl
listed_part (suc n) i r h = rw (drop-cons r i 0 (omega arith), listed_part n (suc i) r (omega arith))

-- The first n bytes, one by one, are the first n bytes.
pub listed_front : (n : ℕ) (r : List ℕ) → n ≤ length r → listed n 0 r ≡ take n r
listed_front n r h = listed_part n 0 r (omega arith)

-- Behind a mark they are the mark and the bytes from the third on.
pub begun : (first second : ℕ) (r : List ℕ) → marked first second r ≡ true → first ∷ second ∷ [] ≡ listed 2 0 r
begun first second r h = let m = mark_rule r 0 first second h in rw (m.0, m.1)

-- ---- records

-- What lies past a place of a list of bytes is bytes.
pub bytes_past : (n : ℕ) (b : List ℕ) → Bytes b → Bytes (drop n b)
bytes_past n b bytes i = rw (get_or-drop n b i 0) (bytes (n + i))

module _ {A : Type 0} (kind : Kind A) (lawful : Lawful kind) where
  -- A record that was written is good exactly if its value is in range.
  pub good_written : (x : A) (r : List ℕ) → kind.in_range x ≡ true → good kind (kind.bytes x ++ r) ≡ true
  good_written x r h = both_hold (lawful.begins x r) (rw (lawful.reads x r h) h)

  -- ---- what was written: it is good, and reads as it was
  pub good_laid : (xs : List A) (r : List ℕ) → all_in kind.in_range xs ≡ true → all_good kind (length xs) (laid kind xs ++ r) ≡ true
  unfolding all_good laid
  good_laid [] r h = refl
  good_laid (x ∷ xs) r h =
      let here : kind.in_range x ≡ true = first_holds _ _ h in
      let later : all_in kind.in_range xs ≡ true = second_holds (kind.in_range x) _ h in
      rw (append_assoc (kind.bytes x) (laid kind xs) r, drop_at (kind.bytes x) (laid kind xs ++ r) kind.width (lawful.wide x))
      (both_hold (good_written x (laid kind xs ++ r) here) (good_laid xs r later))

  pub values_laid : (xs : List A) (r : List ℕ) → all_in kind.in_range xs ≡ true → values kind (length xs) (laid kind xs ++ r) ≡ xs
  unfolding values laid
  values_laid [] r h = refl
  values_laid (x ∷ xs) r h =
      let here : kind.in_range x ≡ true = first_holds _ _ h in
      let later : all_in kind.in_range xs ≡ true = second_holds (kind.in_range x) _ h in
      rw (
        append_assoc (kind.bytes x) (laid kind xs) r,
        drop_at (kind.bytes x) (laid kind xs ++ r) kind.width (lawful.wide x),
        lawful.reads x (laid kind xs ++ r) here,
        values_laid xs r later,
      )

  -- ---- what is read: it is in range, and is written as it was
  pub values_in : (n : ℕ) (b : List ℕ) → all_good kind n b ≡ true → all_in kind.in_range (values kind n b) ≡ true
  unfolding all_good values
  values_in zero b h = refl
  values_in (suc n) b h =
      both_hold (second_holds (marked kind.mark₁ kind.mark₂ b) _ (first_holds (good kind b) _ h))
      (values_in n (drop kind.width b) (second_holds (good kind b) _ h))

  pub laid_values : (n : ℕ) (b : List ℕ) → Bytes b → kind.width * n ≤ length b → all_good kind n b ≡ true
      → laid kind (values kind n b) ≡ take (kind.width * n) b
  unfolding all_good values laid
  laid_values zero b bytes l h = rw (mul-zero kind.width)
  laid_values (suc n) b bytes l h =
      let m : kind.width * suc n ≡ kind.width + kind.width * n = omega (arith, mul-suc kind.width n) in
      let l' : kind.width * n ≤ length (drop kind.width b) = rw (length-drop kind.width b) (omega arith) in
      let here : marked kind.mark₁ kind.mark₂ b ≡ true = first_holds _ _ (first_holds (good kind b) _ h) in
      let later : all_good kind n (drop kind.width b) ≡ true = second_holds (good kind b) _ h in
      rw (
        m,
        take-add kind.width (kind.width * n) b,
        lawful.writes b bytes (omega arith) here,
        laid_values n (drop kind.width b) (bytes_past kind.width b bytes) l' later,
      )
