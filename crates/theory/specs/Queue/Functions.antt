-- Functions of a number with one value changed, and facts about every number from the one that changes and the others. Memory and threads are such
-- functions to the theory: a store then has no length to mind. Assumes nothing.
use Rattle.std.specs.Prelude.{◌≢◌, ◌≡◌, ℕ}
use Rattle.std.proofs.Math.Path.{refl}
use Rattle.std.proofs.Common.{subst, sym}
use Rattle.std.proofs.Math.Decide.{ℕ_discrete}

-- what holds of p and of every other number holds of all
pub by : {P : ℕ → Type 0} (p : ℕ) → P p → ((q : ℕ) → q ≢ p → P q) → (q : ℕ) → P q
by {P} p here others q = go (ℕ_discrete q p)
  where
    go : Dec (q ≡ p) → P q
    go (yes e) = subst P (sym e) here
    go (no n) = others q n

-- f with the value v at i
pub upd : {A : Type 0} → (ℕ → A) → ℕ → A → ℕ → A
upd f i v j = elim (ℕ_discrete j i) [ yes e ↦ v | no n ↦ f j ]

module _ {A : Type 0} (f : ℕ → A) (i : ℕ) (v : A) where
  pub upd_same : upd f i v i ≡ v
  unfolding upd
  upd_same = go (ℕ_discrete i i)
    where
      go : (d : Dec (i ≡ i)) → elim d as (λ _. A) [ yes e ↦ v | no n ↦ f i ] ≡ v
      go (yes e) = refl
      go (no n) = absurd (n refl)

  pub upd_at : (j : ℕ) → j ≡ i → upd f i v j ≡ v
  upd_at j e = rw e upd_same

  pub upd_other : (j : ℕ) → j ≢ i → upd f i v j ≡ f j
  unfolding upd
  upd_other j h = go (ℕ_discrete j i)
    where
      go : (d : Dec (j ≡ i)) → elim d as (λ _. A) [ yes e ↦ v | no n ↦ f j ] ≡ f j
      go (yes e) = absurd (h e)
      go (no n) = refl

-- both, for `simp`
pub ruleset updated = (upd_same, upd_other)
