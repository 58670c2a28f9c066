-- The run of a saved state, in its bytes: "The run gives the state it ends in", whose bytes then stand where those of the first state stood; "Refusals 1 to 4
-- come before the first event and change nothing". Assumes nothing.
use Rattle.std.specs.Prelude.{cond, true, List, ◌≢◌, ◌≡◌, ℕ, length}
use Rattle.std.proofs.Math.Bool.{false}
use Rattle.std.proofs.Common.{ap, eq-eqb, ne_eqb}
use Rattle.std.proofs.Math.Path.{refl}
use Rattle.std.proofs.Math.Dec.{eqb}
use Rattle.events.specs.Theorems.{row_valid}
use Rattle.lock.specs.declared.State.{State}
use Rattle.number.specs.Refused.{done}
use Rattle.rows.specs.Rows.{over}
use Rattle.saved.specs.Proof.Held.{bytes_good, held_valid}
use Rattle.saved.specs.Saved.{bytes_of, read, saved_good, state_in}
use Rattle.schedule.specs.Schedule.{events_of}
use Rattle.run.specs.Run.{answers_of, ran_over, refusal, reported, run, run_bytes}

-- the bytes that a run from the state that b holds leaves
unfoldable pub run_left : List ℕ → List ℕ → List ℕ → List ℕ
run_left b schedule answers =
    let s = (read b).state in
    cond (eqb (refusal s schedule (length answers)) done) (bytes_of (ran_over s schedule).state) b

-- the bytes that the events of schedule e leave are a saved state, that which they end in
pub end_good : (b e : List ℕ) {b' : List ℕ} → saved_good b ≡ true → b' ≡ bytes_of (ran_over (state_in b) e).state
    → (saved_good b' ≡ true) × (state_in b' ≡ (ran_over (state_in b) e).state)
unfolding ran_over
end_good b e {b'} good = bytes_good b' _ (row_valid (state_in b) (events_of e) (held_valid b good))

-- a run that is refused, and one that is not
module _ (b schedule answers : List ℕ) where
  abbrev s : State
  s = (read b).state

  pub refused_run : {m : ℕ} → m ≡ refusal s schedule (length answers) → m ≢ done
      → (reported 0 0 m ≡ (run s schedule answers).report) × (b ≡ run_left b schedule answers) × (answers ≡ run_bytes s schedule answers)
  unfolding run run_left run_bytes
  refused_run {m} e h =
      let z : eqb (refusal s schedule (length answers)) done ≡ false = rw (← e) (ne_eqb m done h) in
      rw z (ap (reported 0 0) e, refl, refl)

  pub accepted_run : refusal s schedule (length answers) ≡ done
      → ((ran_over s schedule).report ≡ (run s schedule answers).report)
      × (bytes_of (ran_over s schedule).state ≡ run_left b schedule answers)
      × (over (answers_of s schedule) answers ≡ run_bytes s schedule answers)
  unfolding run run_left run_bytes
  accepted_run e = rw (eq-eqb _ _ e) (refl, refl, refl)
