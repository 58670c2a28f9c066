-- What stands at a place: a mark; and among records, counted from 0, the value of record i, that all are good exactly if each one is, and what lies
-- past the first i. By induction over the records. Assumes nothing.
use Rattle.std.specs.Prelude.{true, ◌&&◌, List, ◌≡◌, eqb, drop, get_or, length, take}
use Rattle.std.proofs.Math.Path.{ap, refl}
use Rattle.std.proofs.Common.{sym, ◌∙◌, add-zero, le_of_suc-le-suc, mul-zero, arith, take-append-drop, drop_at, drop-drop, get_or-drop, eq-eqb, eqb-true}
use Prim.Native.Nat.{ℕ, zero, suc, ◌+◌, ◌*◌, ◌≤◌, ◌<◌}
use Rattle.number.specs.Tests.{both_hold, first_holds, second_holds}
use Rattle.rows.specs.Loops.{laid_append, length_laid_front, past_more}
use Rattle.rows.specs.Rows.{Kind, Lawful, MarkAt, all_good, good, laid, marked, values}

-- ---- a mark
module _ (b : List ℕ) (place first second : ℕ) where
  -- The test of a mark, from a place on, is about the two bytes that stand there.
  pub marked_at : marked first second (drop place b) ≡ (eqb (get_or b place 0) first && eqb (get_or b (place + 1) 0) second)
  marked_at = rw (get_or-drop place b 0 0, get_or-drop place b 1 0, add-zero place)

  -- Where the test holds, the mark stands there ..
  pub mark_rule : marked first second (drop place b) ≡ true → MarkAt b place first second
  mark_rule h =
      let both = sym marked_at ∙ h in
      (eqb-true _ _ (first_holds _ _ both), eqb-true _ _ (second_holds (eqb (get_or b place 0) first) _ both))

  -- .. and where it stands, the test holds.
  pub rule_mark : MarkAt b place first second → marked first second (drop place b) ≡ true
  rule_mark h = marked_at ∙ both_hold (eq-eqb _ _ h.0) (eq-eqb _ _ h.1)

-- ---- records
module _ {A : Type 0} (kind : Kind A) where
  -- Record i of b says what is read from its place on.
  pub value_at : (n i : ℕ) (b : List ℕ) (d : A) → i < n → get_or (values kind n b) i d ≡ kind.value (drop (kind.width * i) b)
  unfolding values
  value_at zero i b d h = absurd (omega arith)
  value_at (suc n) zero b d h = rw (mul-zero kind.width)
  value_at (suc n) (suc i) b d h = value_at n i (drop kind.width b) d (le_of_suc-le-suc h) ∙ ap kind.value (past_more kind i b)

  -- Where all records are good, each is ..
  pub good_at : (n i : ℕ) (b : List ℕ) → all_good kind n b ≡ true → i < n → good kind (drop (kind.width * i) b) ≡ true
  unfolding all_good
  good_at zero i b h l = absurd (omega arith)
  good_at (suc n) zero b h l = rw (mul-zero kind.width) (first_holds (good kind b) _ h)
  good_at (suc n) (suc i) b h l =
      rw (← past_more kind i b) (good_at n i (drop kind.width b) (second_holds (good kind b) _ h) (le_of_suc-le-suc l))

  -- .. and where each is, all are.
  pub at_good : (n : ℕ) (b : List ℕ) → ((i : ℕ) → i < n → good kind (drop (kind.width * i) b) ≡ true) → all_good kind n b ≡ true
  unfolding all_good
  at_good zero b h = refl
  at_good (suc n) b h =
      both_hold (rw (mul-zero kind.width) at (h 0 (omega arith)))
      (at_good n (drop kind.width b) (λ i l. rw (past_more kind i b) (h (suc i) (omega arith))))

  -- Past the bytes of the first i records lie those of the others.
  pub laid_past : Lawful kind → (i : ℕ) (xs : List A) → i ≤ length xs → drop (kind.width * i) (laid kind xs) ≡ laid kind (drop i xs)
  laid_past lawful i xs h =
      ap (λ ys. drop (kind.width * i) (laid kind ys)) (sym (take-append-drop i xs))
      ∙ rw (laid_append kind (take i xs) (drop i xs))
      (drop_at (laid kind (take i xs)) (laid kind (drop i xs)) (kind.width * i) (length_laid_front kind lawful i xs h))

-- ---- all records of a kind, from a place of b on
module _ {A : Type 0} (kind : Kind A) (from n : ℕ) (b : List ℕ) where
  -- what lies from record i on
  abbrev here : ℕ → List ℕ
  here i = drop (from + kind.width * i) b

  -- where all are good, each is: it has its mark, and it is in range
  each_good : all_good kind n (drop from b) ≡ true → (i : ℕ) → i < n → good kind (here i) ≡ true
  each_good h i l = rw (drop-drop (kind.width * i) from b) at (good_at kind n i (drop from b) h l)

  pub each_marked : all_good kind n (drop from b) ≡ true → (i : ℕ) → i < n → marked kind.mark₁ kind.mark₂ (here i) ≡ true
  each_marked h i l = first_holds _ _ (each_good h i l)

  pub each_in : all_good kind n (drop from b) ≡ true → (i : ℕ) → i < n → kind.in_range (kind.value (here i)) ≡ true
  each_in h i l = second_holds (marked kind.mark₁ kind.mark₂ (here i)) _ (each_good h i l)

  -- and back
  pub all_good_lem : ((i : ℕ) → i < n → marked kind.mark₁ kind.mark₂ (here i) ≡ true) → ((i : ℕ) → i < n → kind.in_range (kind.value (here i)) ≡ true)
      → all_good kind n (drop from b) ≡ true
  all_good_lem mark range = at_good kind n (drop from b) (λ i l. rw (drop-drop (kind.width * i) from b) (both_hold (mark i l) (range i l)))
