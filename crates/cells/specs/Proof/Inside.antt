-- One record among others: where it stands, its bytes are read one by one, and bytes stored there leave the other records as they are. Said once, for
-- every kind of record. First, what holds at each of a few numbers. Rests on records in general (crate `rows`). Assumes nothing.
use Rattle.std.specs.Prelude.{List, [], ◌∷◌, ◌++◌, ◌≡◌, refl, ℕ, zero, suc, ◌+◌, ◌-◌, ◌*◌, ◌≤◌, ◌<◌, drop, get_or, length, set, take}
use Rattle.std.proofs.Common.{append_assoc, ⊎_elim, ap, subst, sym, ◌∙◌, add-suc, eq-or-lt_of_le, le_of_lt, suc-add, zero-add, arith, length-append, length-set, get_or-append-add, get_or-set_other, get_or-take, length-take-le}
use Rattle.std.proofs.Math.ListN.{get_or-append}
use Rattle.std.proofs.lemmas.List.{set-append_left, set_split}
use Rattle.std.proofs.lemmas.List.Edits.{sets}
use Rattle.std.proofs.Math.Seq.{split_at, take-set-lt}
use Rattle.lock.specs.Laws.{nth_in, set_in}
use Rattle.lock.specs.State.{nth, set_nth}
use Rattle.rows.specs.Loops.{laid_append, length_laid_front}
use Rattle.rows.specs.Rows.{Kind, Lawful, laid}

-- P at a and at the n numbers behind it: at a numeral n a product, which gives P at every number from a to a + n
abbrev pub Each : (ℕ → Type 0) → ℕ → ℕ → Type 0
Each P zero a = P a
Each P (suc n) a = P a × Each P n (suc a)

pub each : (P : ℕ → Type 0) (n a : ℕ) → Each P n a → (j : ℕ) → a ≤ j → j ≤ a + n → P j
each P zero a all j h l = subst P (omega arith) all
each P (suc n) a all j h l = ⊎_elim (λ e. subst P e all.0) (λ m. each P n (suc a) all.1 j m (omega arith)) (eq-or-lt_of_le h)

-- what stands before the first byte that is stored stays
pub before_stores : (b : List ℕ) (p : ℕ) (vs : List ℕ) (q : ℕ) → q < p → get_or (sets b p vs) q 0 ≡ get_or b q 0
before_stores b p [] q h = refl
before_stores b p (v ∷ vs) q h = before_stores (set b p v) (suc p) vs q (omega arith) ∙ get_or-set_other b p q v 0 (λ e. omega arith)

-- one store in the middle, and several
set_mid : (p r q : List ℕ) (j v : ℕ) → j < length r → set (p ++ (r ++ q)) (length p + j) v ≡ p ++ (set r j v ++ q)
set_mid [] r q j v h = rw (zero-add j) (set-append_left r q j v h)
set_mid (y ∷ p) r q j v h = rw (suc-add (length p) j) (ap (λ (l : List ℕ). y ∷ l) (set_mid p r q j v h))

sets_mid : (p r q : List ℕ) (j : ℕ) (vs : List ℕ) → j + length vs ≤ length r → sets (p ++ (r ++ q)) (length p + j) vs ≡ p ++ (sets r j vs ++ q)
sets_mid p r q j [] h = refl
sets_mid p r q j (v ∷ vs) h =
    rw (set_mid p r q j v (omega arith), ← add-suc (length p) j) (sets_mid p (set r j v) q (suc j) vs (rw (length-set r j v) (omega arith)))

-- The record of x stands in b from a place on: byte j of it is byte j from there on, and bytes that make it the record of v make b into `after v`.
pub record Stands {A : Type 0} (kind : Kind A) (b : List ℕ) (at : ℕ) (x : A) (after : A → List ℕ) : Type 0 where
  pub shows : (j : ℕ) → j < kind.width → get_or b (at + j) 0 ≡ get_or (kind.bytes x) j 0
  pub stores : (j : ℕ) (vs : List ℕ) (v : A) → j + length vs ≤ kind.width → kind.bytes v ≡ sets (kind.bytes x) j vs → sets b (at + j) vs ≡ after v

module _ {A : Type 0} (kind : Kind A) where
  -- the bytes of one record, between what lies before it and what lies behind it
  around : (front back : List ℕ) (xs : List A) (x : A) (ys : List A)
      → front ++ laid kind (xs ++ x ∷ ys) ++ back ≡ (front ++ laid kind xs) ++ (kind.bytes x ++ (laid kind ys ++ back))
  unfolding laid
  around front back xs x ys = rw (laid_append kind xs (x ∷ ys)) (simp append_assoc)

  -- Number k, counted from 1, among the records of the first n elements of a table.
  pub in_table : Lawful kind → (b front back : List ℕ) (from n : ℕ) (xs : List A) (k : ℕ) (d : A) → b ≡ front ++ laid kind (take n xs) ++ back
      → length front ≡ from → n ≤ length xs → 1 ≤ k → k ≤ n
      → Stands kind b (from + kind.width * (k - 1)) (nth xs k d) (λ v. front ++ laid kind (take n (set_nth xs k v)) ++ back)
  in_table lawful b front back from n xs k d whole at few least most =
      let ys : List A = take n xs in
      let before : List A = take (k - 1) ys in
      let behind : List A = drop (suc (k - 1)) ys in
      let p : List ℕ = front ++ laid kind before in
      let q : List ℕ = laid kind behind ++ back in
      let x : A = nth xs k d in
      let bytes : List A → List ℕ = λ zs. front ++ laid kind zs ++ back in
      let inside : k - 1 < length ys = rw (length-take-le n xs few) (omega arith) in
      let split : b ≡ p ++ (kind.bytes x ++ q) =
      whole ∙ ap bytes (split_at ys (k - 1) d inside)
      ∙ rw (get_or-take n xs (k - 1) d (omega arith), nth_in xs k d (λ e. omega arith)) (around front back before x behind) in
      let begins : from + kind.width * (k - 1) ≡ length p =
      sym (length-append front (laid kind before) ∙ omega (arith, length_laid_front kind lawful (k - 1) ys (le_of_lt inside))) in
      record {
        shows = λ j h. rw (split, begins) (get_or-append-add p (kind.bytes x ++ q) j 0 ∙ get_or-append (kind.bytes x) q 0 j (rw (lawful.wide x) h));
        stores = λ j vs v h c.
            rw (split, begins)
            (sets_mid p (kind.bytes x) q j vs (rw (lawful.wide x) h)
            ∙ ap (λ (r : List ℕ). p ++ (r ++ q)) (sym c)
            ∙ sym (around front back before v behind)
            ∙ ap bytes (sym (set_split ys (k - 1) v inside) ∙ sym (take-set-lt n xs (k - 1) v (omega arith)) ∙ ap (take n) (set_in xs k v (λ e. omega arith))));
      }
