-- A run over a lent saved state. A number of 1 to 4 means that the run was refused, and any other that it was not. What bytes it leaves is in proofs/RunLeft.
-- Rests on the theorems of `run` and `saved`. Assumes nothing.
use Rattle.std.specs.Prelude.{List, ◌≢◌, ◌↔◌, ◌≡◌, refl, ℕ, drop, length}
use Rattle.std.proofs.Math.Logic.{by_cases}
use Rattle.std.proofs.Common.{⊎_elim, ap, arith}
use Rattle.std.proofs.Math.Decide.{ℕ_discrete}
use borrow.Author.Tests.{eq-eqb, le-leb, ne_eqb}
use Rattle.lock.specs.Valid.{Between}
use Rattle.lock.specs.declared.State.{State}
use Rattle.number.specs.First.{First}
use Rattle.number.specs.Refused.{bad_state, done, too_short}
use Rattle.run.specs.Conditions.{Accepted, NoneApply, conditions}
use Rattle.run.specs.Proof.Refused.{refusal_at_most}
use Rattle.run.specs.Run.{ran, refusal, reported, unread_from}
use Rattle.run.specs.Theorems.{accepted_exactly, refused_exactly, run_refused, run_size, run_stops, run_valid, stop_exactly}
use Rattle.run.specs.Theorems as Run
use Rattle.run.specs.declared.Ran.{Ran}
use Rattle.board.specs.Board.{held_in, run_answers, run_conditions, run_number, run_of, run_report, run_unread}
use Rattle.board.specs.Proof.Held.{first_same, held_sized, held_valid}

module _ (b e o : List ℕ) where
  abbrev s : State
  s = held_in b

  pub exactly : (m : ℕ) → Between bad_state m too_short → (run_number b e o ≡ m) ↔ First (run_conditions b e (length o)) m
  exactly m low =
      let by-stop = stop_exactly s e o (held_sized b) m low in
      let by_bytes = first_same (held_valid b) bad_state (drop 1 (run_conditions b e (length o))) m in
      ((λ h. by_bytes.0 (by-stop.0 h)), λ f. by-stop.1 (by_bytes.1 f))

  -- ---- not stopped
  pub none_unread : run_number b e o ≡ done → run_unread b e o ≡ length e
  unfolding unread_from
  none_unread h = rw (eq-eqb (run_number b e o) done h)

  -- ---- the number is 1 to 4 exactly if the run is refused
  abbrev accepted_state : (refusal s e (length o) ≡ done) ↔ Accepted s e (length o)
  accepted_state = accepted_exactly s e (length o) (held_sized b)

  pub refused_low : refusal s e (length o) ≢ done → Between bad_state (run_number b e o) too_short
  refused_low off =
      let range : Between bad_state (refusal s e (length o)) too_short = record { from = omega arith; to = refusal_at_most s e (length o) } in
      rw (ap (λ (r : Ran). r.report.stop) (run_refused s e o _ refl off).0) range

  pub accepted_not_low : refusal s e (length o) ≡ done → ¬ Between bad_state (run_number b e o) too_short
  accepted_not_low on low =
      ⊎_elim (λ z. omega (arith, low.from, z)) (λ high. omega (arith, low.to, high.from)) (run_stops s e o (accepted_state.0 on))

  -- ---- refused
  module _ (low : Between bad_state (run_number b e o) too_short) where
    -- the number is that of the run's refusal
    refuses : refusal s e (length o) ≡ run_number b e o
    refuses = (refused_exactly s e (length o) (held_sized b) _).1 ((stop_exactly s e o (held_sized b) _ low).0 refl)

    stays : (run_of b e o ≡ ran (reported 0 0 (run_number b e o)) s) × (run_answers b e o ≡ o)
    stays = run_refused s e o (run_number b e o) refuses (λ z. omega (arith, low.from, z))

    pub answers_stay : run_answers b e o ≡ o
    answers_stay = stays.1

    pub no_counts : ((run_report b e o).executed ≡ 0) × ((run_report b e o).waited ≡ 0)
    no_counts = (ap (λ (r : Ran). r.report.executed) stays.0, ap (λ (r : Ran). r.report.waited) stays.0)

    pub whole_unread : run_unread b e o ≡ 0
    unfolding unread_from
    whole_unread = rw (ne_eqb (run_number b e o) done (λ z. omega (arith, low.from, z)), le-leb (run_number b e o) too_short low.to)

  -- ---- not refused
  module _ (off : ¬ Between bad_state (run_number b e o) too_short) where
    pub accepted : Accepted s e (length o)
    accepted = by_cases (ℕ_discrete (refusal s e (length o)) done) accepted_state.0 (λ refused. absurd (off (refused_low refused)))

  -- ---- nothing refuses the run exactly if no condition applies
  abbrev none_of_state : (refusal s e (length o) ≡ done) ↔ NoneApply (conditions s e (length o))
  none_of_state = Run.none_exactly s e (length o) (held_sized b)

  pub none_exactly : (¬ Between bad_state (run_number b e o) too_short) ↔ NoneApply (run_conditions b e (length o))
  none_exactly = (to, from)
    where
      to : ¬ Between bad_state (run_number b e o) too_short → NoneApply (run_conditions b e (length o))
      to off =
          let none = none_of_state.0 (accepted_state.1 (accepted off)) in
          ((λ broken. none.0 (λ v. broken ((held_valid b).0 v))), none.1)

      from : NoneApply (run_conditions b e (length o)) → ¬ Between bad_state (run_number b e o) too_short
      from none = accepted_not_low (none_of_state.1 ((λ broken. none.0 (λ f. broken ((held_valid b).1 f))), none.1))
