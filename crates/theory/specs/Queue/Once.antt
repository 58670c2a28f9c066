-- From an exchange on, as long as its thread has not passed, every thread passes at most once. The threads that have exchanged and not passed stand in the
-- list of exchanges behind those that have passed; no two of them are the same, since they have different places. Who passes before a thread that
-- exchanges behind them is one of them. For any machine with Places and Order. Assumes nothing.
use Rattle.std.specs.Prelude.{Bool, cond, false, true, List, [], ◌∷◌, ◌++◌, ◌≡◌, refl, ℕ, suc, ◌+◌, ◌≤◌, ◌<◌, eqb, drop, get_or, length}
use Rattle.std.proofs.Common.{append_assoc, ap, sym, ◌∙◌, arith, length-drop, take-append-drop, get_or-drop, eqb-true}
use Rattle.std.proofs.lemmas.List.{append_cancel_left}
use Rattle.std.proofs.Math.Decide.{dec_le, dec_lt, ℕ_discrete}
use Rattle.std.proofs.lemmas.Bool.{eqb-false}
use Rattle.number.specs.declared.ThreadNo.{ThreadNo}
use Rattle.theory.specs.Demands.{Prefix, how_often, nobody}
use Rattle.theory.specs.Queue.AtLines.{In}
use Rattle.theory.specs.Queue.Order.{Order}
use Rattle.theory.specs.Queue.Places.{Places}
use Rattle.theory.specs.Queue.Seen.{Seen}

-- ---- how often a thread stands in a list

-- how often in two lists, one behind the other
often_append : (t : ThreadNo) (xs ys : List ThreadNo) → how_often t (xs ++ ys) ≡ how_often t xs + how_often t ys
unfolding how_often
often_append t [] ys = omega arith
often_append t (x ∷ xs) ys = omega (arith, often_append t xs ys)

-- a thread is itself
often_here : (t : ThreadNo) (xs : List ThreadNo) → how_often t (t ∷ xs) ≡ 1 + how_often t xs
unfolding how_often
often_here t xs = go (eqb t.0 t.0) refl
  where
    go : (b : Bool) → eqb t.0 t.0 ≡ b → cond b 1 0 + how_often t xs ≡ 1 + how_often t xs
    go true e = refl
    go false e = absurd (eqb-false t.0 t.0 e refl)

-- one that stands nowhere does not stand behind the first
none_behind : (t x : ThreadNo) (xs : List ThreadNo) → how_often t (x ∷ xs) ≡ 0 → how_often t xs ≡ 0
unfolding how_often
none_behind t x xs h = omega arith

-- one that stands there at all stands at some place
some_place : (t : ThreadNo) (xs : List ThreadNo) → 0 < how_often t xs → (i : ℕ) × (i < length xs) × ((get_or xs i nobody).0 ≡ t.0)
unfolding how_often
some_place t [] h = absurd (omega arith)
some_place t (x ∷ xs) h = go (eqb x.0 t.0) refl (λ k. some_place t xs k)
  where
    go : (b : Bool) → eqb x.0 t.0 ≡ b → (0 < how_often t xs → (i : ℕ) × (i < length xs) × ((get_or xs i nobody).0 ≡ t.0))
        → (i : ℕ) × (i < suc (length xs)) × ((get_or (x ∷ xs) i nobody).0 ≡ t.0)
    go true e later = (0, omega arith, eqb-true x.0 t.0 e)
    go false e later = let (i, a, b) = later (omega (arith, rw e at h)) in (suc i, omega arith, b)

-- in a list with no thread at two places each stands at most once
at_most_once : (xs : List ThreadNo) → ((i j : ℕ) → i < length xs → j < length xs → (get_or xs i nobody).0 ≡ (get_or xs j nobody).0 → i ≡ j)
    → (t : ThreadNo) → how_often t xs ≤ 1
unfolding how_often
at_most_once [] apart t = omega arith
at_most_once (x ∷ xs) apart t =
    go (eqb x.0 t.0) refl (at_most_once xs (λ i j a b e. omega (arith, apart (suc i) (suc j) (omega arith) (omega arith) e)) t)
  where
    again : x.0 ≡ t.0 → (i : ℕ) × (i < length xs) × ((get_or xs i nobody).0 ≡ t.0) → ⊥
    again e (i, a, b) = omega (arith, apart (suc i) 0 (omega arith) (omega arith) (b ∙ sym e))

    go : (b : Bool) → eqb x.0 t.0 ≡ b → how_often t xs ≤ 1 → cond b 1 0 + how_often t xs ≤ 1
    go true e r = elim (dec_lt 0 (how_often t xs)) [ yes h ↦ absurd (again (eqb-true x.0 t.0 e) (some_place t xs h)) | no h ↦ omega arith ]
    go false e r = omega arith

-- ---- lists that begin alike

-- lists that begin alike, with one thread in front
longer : (x z : ThreadNo) (xs zs : List ThreadNo) → x ≡ z → Prefix xs zs → Prefix (x ∷ xs) (z ∷ zs)
longer x z xs zs same (others, whole) = (others, rw (same, whole))

-- of a list that goes on with t, a front in which t does not stand ends before t
ends_before : (t : ThreadNo) (xs rest zs later : List ThreadNo) → xs ++ rest ≡ zs ++ t ∷ later → how_often t xs ≡ 0 → Prefix xs zs
ends_before t [] rest zs later e h = (zs, refl)
ends_before t (x ∷ xs) rest [] later e h =
    let same : x ≡ t = cc in
    absurd (omega (arith, ap (λ (y : ThreadNo). how_often t (y ∷ xs)) same, often_here t xs))
ends_before t (x ∷ xs) rest (z ∷ zs) later e h =
    let same : x ≡ z = cc in
    let shorter : xs ++ rest ≡ zs ++ t ∷ later = cc in
    longer x z xs zs same (ends_before t xs rest zs later shorter (none_behind t x xs h))

-- ---- who has exchanged and not passed
module _ {first section last : ℕ} {th : ℕ → Seen} {taker : ℕ → ℕ} {low high : ℕ} {exchanged passed : List ThreadNo}
    (o : Order first section last th taker low high exchanged passed) where
  abbrev pub to_pass : List ThreadNo
  to_pass = drop (length passed) exchanged

  -- the exchanges are the passages, and then those of these threads
  pub passed_first : exchanged ≡ passed ++ to_pass
  passed_first = sym (take-append-drop (length passed) exchanged) ∙ ap (λ (xs : List ThreadNo). xs ++ to_pass) (sym o.first_passed)

  module _ (u : Places first last th taker low high) where
    -- at least as many have passed as have left
    left_passed : low ≤ length passed + 1
    left_passed = go (ℕ_discrete low high)
      where
        front : (q : ℕ) → In first last (th q).line → (th q).slot ≡ low → low ≤ length passed + 1
        front q h e = elim (dec_le (th q).line section)
            [ yes x ↦ omega (arith, o.before q (h.0, x) e) | no x ↦ omega (arith, o.past q (omega arith)) ]

        go : Dec (low ≡ high) → low ≤ length passed + 1
        go (yes e) = omega (arith, o.empty e)
        go (no n) = let y = u.held low (taker low) refl (omega arith) (omega (arith, u.order)) in front (taker low) y.0 y.1

    -- no thread took two places from low to high - 1
    one_taker : (j k : ℕ) → low ≤ j → j < high → low ≤ k → k < high → taker j ≡ taker k → j ≡ k
    one_taker j k w x y z e = omega (arith, (u.held j (taker k) e w x).1, (u.held k (taker k) refl y z).1)

    -- so no thread stands among them twice
    once_to_pass : (t : ThreadNo) → how_often t to_pass ≤ 1
    once_to_pass = at_most_once to_pass apart
      where
        inside : (i : ℕ) → i < length to_pass → length passed + i < length exchanged
        inside i x = omega (arith, length-drop (length passed) exchanged)

        place : (i : ℕ) → i < length to_pass → (get_or to_pass i nobody).0 ≡ taker (length passed + i + 1)
        place i x = ap (λ (t : ThreadNo). t.0) (get_or-drop (length passed) exchanged i nobody ∙ o.names (length passed + i) (inside i x))

        apart : (i j : ℕ) → i < length to_pass → j < length to_pass → (get_or to_pass i nobody).0 ≡ (get_or to_pass j nobody).0 → i ≡ j
        apart i j x y e =
            let m = left_passed in
            let v = inside i x in
            let w = inside j y in
            let n = o.size in
            omega (
              arith,
              one_taker (length passed + i + 1) (length passed + j + 1) (omega arith) (omega arith) (omega arith) (omega arith)
                  (sym (place i x) ∙ e ∙ place j y),
            )

    -- ---- later on: t has exchanged behind them, others after it, and `since` are the threads that have passed since then
    module _ {th' : ℕ → Seen} {taker' : ℕ → ℕ} {low' high' : ℕ} (t : ThreadNo) (others since : List ThreadNo)
        (o' : Order first section last th' taker' low' high' (exchanged ++ t ∷ others) (passed ++ since)) where
      -- who has passed since then is the front of these threads, of t, and of the others
      front_passed : Prefix since (to_pass ++ t ∷ others)
      front_passed =
          let rest = drop (length (passed ++ since)) (exchanged ++ t ∷ others) in
          let whole = sym (take-append-drop (length (passed ++ since)) (exchanged ++ t ∷ others)) in
          let later = whole ∙ ap (λ (xs : List ThreadNo). xs ++ rest) (sym o'.first_passed) ∙ append_assoc passed since rest in
          let before = ap (λ (xs : List ThreadNo). xs ++ t ∷ others) passed_first in
          (rest, append_cancel_left passed _ _ (sym (append_assoc passed to_pass (t ∷ others)) ∙ sym before ∙ later))

      -- As long as t is none of them, no thread has passed twice.
      pub once_between : how_often t since ≡ 0 → (v : ThreadNo) → how_often v since ≤ 1
      once_between none v = go front_passed
        where
          at_most : Prefix since to_pass → how_often v since ≤ 1
          at_most (rest, whole) = omega (arith, once_to_pass v, ap (how_often v) whole, often_append v since rest)

          go : Prefix since (to_pass ++ t ∷ others) → how_often v since ≤ 1
          go (rest, whole) = at_most (ends_before t since rest to_pass others (sym whole) none)
