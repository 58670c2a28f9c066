-- The state that bytes hold: it is valid exactly if the bytes are a saved state, and its tables have room for 32 each in any case. So the first refusal
-- of a call on it, "the state breaks a rule", applies exactly where "the bytes are no saved state" does. Assumes nothing.
use Rattle.std.specs.Prelude.{List, ◌∷◌, ◌↔◌, ◌≡◌, ℕ}
use Rattle.std.proofs.Math.Logic.{by_cases}
use Rattle.std.proofs.Common.{inl, inr, ⊎_elim, ap, sym, ◌∙◌, arith}
use Rattle.std.proofs.Math.Decide.{ℕ_discrete}
use Rattle.std.proofs.lemmas.List.{length-replicate}
use Rattle.lock.specs.State.{table_size, zero_node, zero_state, zero_thread}
use Rattle.lock.specs.Valid.{Sized, Valid}
use Rattle.lock.specs.Fresh.{Opened}
use Rattle.number.specs.First.{Condition, First, ◌given-when◌}
use Rattle.number.specs.Refused.{bad_state, done}
use Rattle.saved.specs.Saved.{SavedFile, read}
use Rattle.saved.specs.Theorems.{good_file, read_refused, read_valid}
use Rattle.board.specs.Board.{check_number, held_in, saved_conditions}

-- ---- a state with 0 everywhere
zero_broken : ¬ Valid zero_state
zero_broken v = omega (arith, v.shared.threads.from)

zero_sized : Sized zero_state
zero_sized = record { nodes = length-replicate table_size zero_node; threads = length-replicate table_size zero_thread }

module _ (b : List ℕ) where
  -- ---- either the bytes are a saved state, or what they hold is 0 everywhere
  pub saved_or_not : Dec (SavedFile b)
  saved_or_not = by_cases (ℕ_discrete (read b).number done) (λ e. yes ((good_file b).0 e)) (λ off. no (λ f. off ((good_file b).1 f)))

  pub saved_valid : SavedFile b → Valid (held_in b)
  saved_valid f = read_valid b ((good_file b).1 f)

  not_saved : ¬ SavedFile b → held_in b ≡ zero_state
  not_saved broken = ap (λ (o : Opened). o.state) (read_refused b (λ e. broken ((good_file b).0 e)))

  not_valid : ¬ SavedFile b → ¬ Valid (held_in b)
  not_valid broken = rw (not_saved broken) zero_broken

  pub held_valid : Valid (held_in b) ↔ SavedFile b
  held_valid = ((λ v. by_cases saved_or_not (λ f. f) (λ broken. absurd (not_valid broken v))), saved_valid)

  pub held_sized : Sized (held_in b)
  held_sized = by_cases saved_or_not (λ f. (saved_valid f).sized) (λ broken. rw (not_saved broken) zero_sized)

  -- ---- a call that only judges the bytes: 1 exactly if they are no saved state, and else 0
  pub judges_saved : (number : ℕ) → (SavedFile b → number ≡ done) → (¬ SavedFile b → number ≡ bad_state)
      → (m : ℕ) → (number ≡ m) ↔ First (saved_conditions b) m
  judges_saved number good bad m = (
    λ e. by_cases saved_or_not (λ f. inr ((λ broken. broken f), sym e ∙ good f)) (λ broken. inl (broken, sym e ∙ bad broken)),
    ⊎_elim (λ f. bad f.0 ∙ sym f.1) (λ f. by_cases saved_or_not (λ g. good g ∙ sym f.1) (λ broken. absurd (f.0 broken))),
  )

  pub check_exactly : (m : ℕ) → (check_number b ≡ m) ↔ First (saved_conditions b) m
  check_exactly =
      judges_saved (check_number b) (good_file b).1
      (λ broken. ap (λ (o : Opened). o.number) (read_refused b (λ e. broken ((good_file b).0 e))))

-- ---- a refusal of what breaks a rule, where two rules say the same
pub first_same : {A B : Type 0} → A ↔ B → (number : ℕ) (later : List Condition) (m : ℕ)
    → First (number given-when (¬ A) ∷ later) m ↔ First (number given-when (¬ B) ∷ later) m
first_same same number later m = (
  ⊎_elim (λ f. inl ((λ y. f.0 (same.1 y)), f.1)) (λ f. inr ((λ broken. f.0 (λ x. broken (same.0 x))), f.1)),
  ⊎_elim (λ f. inl ((λ x. f.0 (same.0 x)), f.1)) (λ f. inr ((λ broken. f.0 (λ y. broken (same.1 y))), f.1)),
)
