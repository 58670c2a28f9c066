-- A run from a fresh lock ends where the events that it takes lead, and neither its stopping number nor a byte that it stores is 9, 10 or 11. Rests on the
-- run's theorems and Passages. Assumes nothing.
use Rattle.std.specs.Prelude.{Bool, cond, false, true, List, [], ◌∷◌, ◌≡◌, ℕ, zero, suc, ◌<◌, get_or, length}
use Rattle.std.proofs.Math.Logic.{by_cases}
use Rattle.std.proofs.Common.{ap, arith, length-take, eq-eqb, ne_eqb}
use Rattle.std.proofs.Math.Path.{refl}
use Rattle.std.proofs.Math.Decide.{ℕ_discrete}
use Rattle.events.specs.Events.{after, answers}
use Rattle.events.specs.Row.{goes_on, stopping, up_to_stop}
use Rattle.lock.specs.declared.State.{State}
use Rattle.number.specs.Refused.{done}
use Rattle.number.specs.declared.ThreadNo.{ThreadNo}
use Rattle.run.specs.Conditions.{Accepted}
use Rattle.run.specs.Proof.Refused.{refusal_at_most}
use Rattle.run.specs.Run.{refusal, report_of, run, run_bytes, step_answers}
use Rattle.run.specs.Theorems.{accepted_exactly, answer_at_place, run_refused, run_row}
use Rattle.run.specs.declared.Ran.{Ran}
use Rattle.schedule.specs.Schedule.{events_of}
use Rattle.machine.specs.Step.{step}
use Rattle.theory.specs.Demands.{Is9To11, events_taken}
use Rattle.theory.proofs.Passages.{never_answered}
use Rattle.theory.specs.Proof.Reached.{Reached}

-- what holds of 0 and of each answer holds of the stopping number
of_stop : (P : ℕ → Type 0) → P done → (xs : List ℕ) → ((i : ℕ) → P (get_or xs i done)) → P (stopping xs)
unfolding stopping
of_stop P zero_has [] h = zero_has
of_stop P zero_has (a ∷ xs) h = go (goes_on a) (h 0) (of_stop P zero_has xs (λ i. h (suc i)))
  where
    go : (b : Bool) → P a → P (stopping xs) → P (cond b (stopping xs) a)
    go true here later = later
    go false here later = here

-- .. and of each answer up to the stop
of_answers : (P : ℕ → Type 0) → P done → (xs : List ℕ) → ((i : ℕ) → P (get_or xs i done)) → (i : ℕ) → P (get_or (up_to_stop xs) i done)
unfolding up_to_stop
of_answers P zero_has [] h i = zero_has
of_answers P zero_has (a ∷ xs) h zero = h 0
of_answers P zero_has (a ∷ xs) h (suc i) = go (goes_on a) (of_answers P zero_has xs (λ i. h (suc i)) i)
  where
    go : (b : Bool) → P (get_or (up_to_stop xs) i done) → P (get_or (cond b (up_to_stop xs) []) i done)
    go true later = later
    go false later = zero_has

module _ {s : State} {exchanged passed : List ThreadNo} (r : Reached s exchanged passed) (b out : List ℕ) where
  abbrev number : ℕ
  number = refusal s b (length out)

  accepted : number ≡ done → Accepted s b (length out)
  accepted = (accepted_exactly s b (length out) r.valid.sized).0

  pub run_end : (run s b out).state ≡ after step s (events_taken s b out)
  unfolding after
  run_end =
      by_cases (ℕ_discrete number done)
      (λ ok. rw (eq-eqb number done ok) (ap (λ (x : Ran). x.state) (run_row s b out (accepted ok)).0))
      (λ no. rw (ne_eqb number done no) (ap (λ (x : Ran). x.state) (run_refused s b out number refl no).0))

  -- a refusal of a run is 1 to 4
  refused_not : ¬ Is9To11 number
  refused_not h = omega (arith, refusal_at_most s b (length out))

  -- no answer up to the stop is 9, 10 or 11
  given_never : (i : ℕ) → ¬ Is9To11 (get_or (step_answers s b) i done)
  given_never = of_answers (λ (m : ℕ). ¬ Is9To11 m) (λ h. omega arith) (answers step s (events_of b)) (never_answered r (events_of b))

  pub stop_never : ¬ Is9To11 (run s b out).report.stop
  unfolding report_of
  stop_never =
      by_cases (ℕ_discrete number done)
      (λ ok.
      rw (run_row s b out (accepted ok)).0
      (of_stop (λ (m : ℕ). ¬ Is9To11 m) (λ h. omega arith) (step_answers s b) given_never))
      (λ no. rw (run_refused s b out number refl no).0 refused_not)

  -- the bytes that it stores are these answers
  pub bytes_never : (i : ℕ) → i < length (events_taken s b out) → ¬ Is9To11 (get_or (run_bytes s b out) i done)
  bytes_never i =
      by_cases (ℕ_discrete number done)
      (λ ok.
      rw (eq-eqb number done ok)
      (λ h.
      let answered : i < length (step_answers s b) = omega (arith, length-take (length (step_answers s b)) (events_of b)) in
      rw (answer_at_place s b out (accepted ok) i answered) (given_never i)))
      (λ no. rw (ne_eqb number done no) (λ h. absurd (omega arith)))
