-- Laws of what stands at a number, counted from 1, from the list library's laws of what stands at a place, counted from 0. Assumes nothing.
use Rattle.std.specs.Prelude.{◌≢◌, List, ◌++◌, map, ◌≡◌, refl, ℕ, zero, suc, ◌-◌, ◌≤◌, ◌<◌, get_or, length, replicate, set}
use Rattle.std.proofs.Common.{ap, sym, ◌∙◌, le_of_suc-le-suc, arith, length-set, get_or-set_other, get_or-set_same, set-set}
use Rattle.std.proofs.Math.ListN.{get_or-append}
use Rattle.std.proofs.lemmas.List.{get_or-replicate, length-map, length-replicate, set-get_or}
use Rattle.lock.specs.State.{nth, set_nth}

module _ {A : Type 0} (xs : List A) where
  -- nothing stands at 0
  pub nth_none : (k : ℕ) (d : A) → k ≡ 0 → d ≡ nth xs k d
  nth_none zero d h = refl
  nth_none (suc k) d h = absurd (omega arith)

  -- number k stands at place k - 1
  pub nth_in : (k : ℕ) (d : A) → k ≢ 0 → get_or xs (k - 1) d ≡ nth xs k d
  nth_in zero d h = absurd (h refl)
  nth_in (suc k) d h = ap (λ (j : ℕ). get_or xs j d) (omega arith)

  pub set_in : (k : ℕ) (v : A) → k ≢ 0 → set xs (k - 1) v ≡ set_nth xs k v
  set_in zero v h = absurd (h refl)
  set_in (suc k) v h = ap (λ (j : ℕ). set xs j v) (omega arith)

  -- what was stored stands there, and everywhere else what stood there
  pub nth_set_same : (k : ℕ) (v d : A) → 1 ≤ k → k ≤ length xs → nth (set_nth xs k v) k d ≡ v
  nth_set_same zero v d h l = absurd (omega arith)
  nth_set_same (suc k) v d h l = get_or-set_same xs k v d l

  pub nth_set_other : (j k : ℕ) (v d : A) → j ≢ k → nth (set_nth xs k v) j d ≡ nth xs j d
  nth_set_other zero k v d h = refl
  nth_set_other (suc j) zero v d h = refl
  nth_set_other (suc j) (suc k) v d h = get_or-set_other xs k j v d (λ e. h (ap suc e))

  -- storing what stands there changes nothing; of two stores the second stays
  pub set_same : (k : ℕ) (d : A) → set_nth xs k (nth xs k d) ≡ xs
  set_same zero d = refl
  set_same (suc k) d = set-get_or xs k d

  pub set_twice : (k : ℕ) (v w : A) → set_nth (set_nth xs k v) k w ≡ set_nth xs k w
  set_twice zero v w = refl
  set_twice (suc k) v w = set-set xs k v w

  pub length_set_nth : (k : ℕ) (v : A) → length (set_nth xs k v) ≡ length xs
  length_set_nth zero v = refl
  length_set_nth (suc k) v = length-set xs k v

-- ---- n times v, and then m times d
module _ {A : Type 0} (v d : A) where
  -- in a list of d alone stands d everywhere
  all_same : (m i : ℕ) → get_or (replicate m d) i d ≡ d
  all_same zero i = refl
  all_same (suc m) zero = refl
  all_same (suc m) (suc i) = all_same m i

  -- by places, which are counted from 0: d stands from place n on
  after_front : (n m i : ℕ) → n ≤ i → get_or (replicate n v ++ replicate m d) i d ≡ d
  after_front zero m i h = all_same m i
  after_front (suc n) m zero h = absurd (omega arith)
  after_front (suc n) m (suc i) h = after_front n m i (le_of_suc-le-suc h)

  -- v stands at 1 to n
  pub nth_front : (n m k : ℕ) → 1 ≤ k → k ≤ n → nth (replicate n v ++ replicate m d) k d ≡ v
  nth_front n m zero a b = absurd (omega arith)
  nth_front n m (suc k) a b =
      get_or-append (replicate n v) (replicate m d) d k (rw (length-replicate n v) b) ∙ get_or-replicate n k v d b

  -- d stands at every other number
  pub nth_after_front : (n m k : ℕ) → n < k → nth (replicate n v ++ replicate m d) k d ≡ d
  nth_after_front n m zero h = refl
  nth_after_front n m (suc k) h = after_front n m k (le_of_suc-le-suc h)

-- the length of an array field, as a proof of its function finds it
pub length_mapped : (X Y : Type 0) (f : X → Y) (l : List X) (n : ℕ) → length (map f l) ≡ n → length l ≡ n
length_mapped X Y f l n h = sym (length-map l f) ∙ h
