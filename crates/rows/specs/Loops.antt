-- The laws of loops over records, for every kind: a turn that judges one record more, that reads one more into a table, and that writes one more.
-- Each follows from how the definitions go on by one record at the end. And that equal records are copies of one. Assumes nothing.
use Rattle.std.specs.Prelude.{Bool, ◌&&◌, ◌≡◌, drop, replicate, set, take}
use Rattle.std.proofs.Math.Bool.{and_assoc, and-true}
use mathlib.Core.List.{List, [], ◌∷◌, ◌++◌, append_assoc, append-nil}
use Rattle.std.proofs.Math.Path.{ap, refl, sym}
use Rattle.std.proofs.Common.{◌∙◌, le_of_lt, mul-zero, add-one, arith, drop-drop, length-take-le}
use Prim.Native.Nat.{ℕ, zero, suc, ◌+◌, ◌*◌, ◌≤◌, ◌<◌}
use Rattle.std.proofs.Math.Nat.{mul-suc}
use Rattle.std.proofs.Math.ListN.{get_or, length, length-append}
use Rattle.std.proofs.lemmas.List.Edits.{sets}
use Rattle.std.proofs.Math.Seq.{take-suc}
use Rattle.rows.specs.Rows.{Kind, Lawful, all_good, good, laid, times, values}
use Rattle.rows.specs.Stored.{set_behind, sets_append}

module _ {A : Type 0} (kind : Kind A) where
  -- past one record and then past n more is past n + 1
  pub past_more : (n : ℕ) (b : List ℕ) → drop (kind.width * n) (drop kind.width b) ≡ drop (kind.width * suc n) b
  past_more n b =
      let e : kind.width + kind.width * n ≡ kind.width * suc n = omega (arith, mul-suc kind.width n) in
      rw (← e, drop-drop (kind.width * n) kind.width b)

  -- ---- reading

  pub length_values : (n : ℕ) (b : List ℕ) → length (values kind n b) ≡ n
  unfolding values
  length_values zero b = refl
  length_values (suc n) b = ap suc (length_values n (drop kind.width b))

  values_more : (n : ℕ) (b : List ℕ) → values kind (suc n) b ≡ values kind n b ++ (kind.value (drop (kind.width * n) b) ∷ [])
  unfolding values
  values_more zero b = rw (mul-zero kind.width)
  values_more (suc n) b = ap (λ (l : List A). kind.value b ∷ l) (values_more n (drop kind.width b) ∙ rw (past_more n b))

  -- A turn of the loop that reads records into a table.
  pub read_more : (n : ℕ) (b : List ℕ) (xs : List A) (d : A) → n < length xs
      → set (values kind n b ++ drop n xs) n (kind.value (drop (kind.width * n) b)) ≡ values kind (n + 1) b ++ drop (n + 1) xs
  read_more n b xs d h =
      set_behind (values kind n b) xs n (kind.value (drop (kind.width * n) b)) d (length_values n b) h
      ∙ rw (add-one n, values_more n b)

  -- ---- judging

  -- A turn of the loop that judges records.
  pub judge_more : (n : ℕ) (b : List ℕ) → (all_good kind n b && good kind (drop (kind.width * n) b)) ≡ all_good kind (suc n) b
  unfolding all_good
  judge_more zero b = rw (mul-zero kind.width, and-true (good kind b))
  judge_more (suc n) b =
      and_assoc (good kind b) (all_good kind n (drop kind.width b)) (good kind (drop (kind.width * suc n) b))
      ∙ ap (λ (t : Bool). good kind b && t) (rw (← past_more n b) (judge_more n (drop kind.width b)))

  -- ---- writing
  module _ (lawful : Lawful kind) where
    pub length_laid : (xs : List A) → length (laid kind xs) ≡ kind.width * length xs
    unfolding laid
    length_laid [] = sym (mul-zero kind.width)
    length_laid (x ∷ xs) =
        length-append (kind.bytes x) (laid kind xs)
        ∙ omega (arith, lawful.wide x, length_laid xs, mul-suc kind.width (length xs))

    -- the bytes of the first n of a table's values
    pub length_laid_front : (n : ℕ) (xs : List A) → n ≤ length xs → length (laid kind (take n xs)) ≡ kind.width * n
    length_laid_front n xs h = length_laid (take n xs) ∙ rw (length-take-le n xs h)

  pub laid_append : (xs ys : List A) → laid kind (xs ++ ys) ≡ laid kind xs ++ laid kind ys
  unfolding laid
  laid_append [] ys = refl
  laid_append (x ∷ xs) ys = rw (laid_append xs ys, append_assoc)

  -- The records of a table whose first n elements are v are n times the bytes of v.
  pub laid_same : (n : ℕ) (v : A) (xs : List A) → laid kind (take n (replicate n v ++ xs)) ≡ times n (kind.bytes v)
  unfolding laid times
  laid_same zero v xs = refl
  laid_same (suc n) v xs = ap (λ (l : List ℕ). kind.bytes v ++ l) (laid_same n v xs)

  -- A turn of the loop that writes records.
  pub put_more : Lawful kind → (o : List ℕ) (at i : ℕ) (xs : List A) (d : A) → i < length xs
      → sets (sets o at (laid kind (take i xs))) (at + kind.width * i) (kind.bytes (get_or xs i d)) ≡ sets o at (laid kind (take (i + 1) xs))
  unfolding laid
  put_more lawful o at i xs d h =
      let x : A = get_or xs i d in
      let l : length (laid kind (take i xs)) ≡ kind.width * i = length_laid_front lawful i xs (le_of_lt h) in
      rw (add-one i, take-suc xs i d h, laid_append (take i xs) (x ∷ []), append-nil (kind.bytes x))
      (sym (rw l at (sets_append o at (laid kind (take i xs)) (kind.bytes x))))
