-- The three questions that only judge their state: 1 exactly if the bytes are no saved state. One law over the question. Assumes nothing.
use Rattle.std.specs.Prelude.{List, ◌≢◌, ◌↔◌, ◌≡◌, ℕ}
use Rattle.std.proofs.Math.Logic.{by_cases}
use Rattle.std.proofs.Common.{ap}
use Rattle.ask.specs.Ask.{nodes_in_use, refused, status, waiting}
use Rattle.ask.specs.Theorems.{in_use_nodes, in_use_refused, status_exactly, status_refused, waiting_lines, waiting_refused}
use Rattle.ask.specs.Asked.{Asked}
use Rattle.lock.specs.Valid.{Sized, Valid}
use Rattle.lock.specs.declared.State.{State}
use Rattle.number.specs.First.{First}
use Rattle.number.specs.OneResult.{only}
use Rattle.number.specs.Refused.{bad_state, done}
use Rattle.saved.specs.Saved.{SavedFile}
use Rattle.board.specs.Board.{held_in, saved_conditions}
use Rattle.board.specs.Proof.Held.{held_sized, held_valid, judges_saved, saved_or_not}

-- a question that has its value in a valid state, and refuses any other by 1
pub record Judging (ask : State → Asked) : Type 0 where
  pub answers : (s : State) → Valid s → (ask s).number ≡ done
  pub refuses : (s : State) → Sized s → ¬ Valid s → ask s ≡ refused bad_state

pub status_judges : Judging status
status_judges = record { answers = λ s v. (status_exactly s v).0; refuses = status_refused }

pub waiting_judges : Judging waiting
waiting_judges = record { answers = λ s v. ap (λ (a : Asked). a.number) (waiting_lines s v); refuses = waiting_refused }

pub in_use_judges : Judging nodes_in_use
in_use_judges = record { answers = λ s v. ap (λ (a : Asked). a.number) (in_use_nodes s v); refuses = in_use_refused }

module _ {ask : State → Asked} (j : Judging ask) (b : List ℕ) where
  of_saved : SavedFile b → (ask (held_in b)).number ≡ done
  of_saved f = j.answers (held_in b) ((held_valid b).1 f)

  of_bad : ¬ SavedFile b → ask (held_in b) ≡ refused bad_state
  of_bad broken = j.refuses (held_in b) (held_sized b) (λ v. broken ((held_valid b).0 v))

  pub exactly : (m : ℕ) → ((ask (held_in b)).number ≡ m) ↔ First (saved_conditions b) m
  exactly = judges_saved b (ask (held_in b)).number of_saved (λ broken. ap (λ (a : Asked). a.number) (of_bad broken))

  pub of_refused : (ask (held_in b)).number ≢ done → ask (held_in b) ≡ refused bad_state
  of_refused off = by_cases (saved_or_not b) (λ f. absurd (off (of_saved f))) of_bad

-- what a question gives leaves no second number and no second value
pub only_one : (asked : Asked) {r r' x x' : ℕ} → (r ≡ asked.number) × (x ≡ asked.value) → (r' ≡ asked.number) × (x' ≡ asked.value)
    → (r ≡ r') × (x ≡ x')
only_one asked p q = (only p.0 q.0, only p.1 q.1)
