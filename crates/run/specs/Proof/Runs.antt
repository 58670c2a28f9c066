-- Runs: one that is refused, and one that is not, which is the row of its schedule's events (crate `events`) from a state that is judged once. Rests on
-- Refused and on the theorems about rows. Assumes nothing.
use mathlib.Core.List.{List}
use Rattle.std.specs.Prelude.{◌≢◌, ◌⊎◌, ◌↔◌, ◌≡◌, refl, ℕ, ◌≤◌, ◌<◌, get_or, length, take}
use Rattle.std.proofs.Math.Logic.{by_cases}
use Rattle.std.proofs.Common.{inl, inr, ◌∙◌, arith}
use Rattle.std.proofs.Math.Path.{ap, sym}
use Rattle.std.proofs.Math.Decide.{ℕ_discrete}
use borrow.Author.Tests.{ne_eqb}
use Rattle.events.specs.Events.{after}
use Rattle.events.specs.FigureRun.{FigureRun}
use Rattle.events.specs.Row.{row_answers, row_end, stopping}
use Rattle.events.specs.Theorems.{figure_run_only, judged_once, row_counts, row_end_lem, row_figure, row_length, row_of_steps, row_size, row_valid}
use Rattle.events.specs.Theorems.{stopping_5_to_11}
use Rattle.lock.specs.Valid.{Between, SameSize, Sized, Valid}
use Rattle.lock.specs.declared.State.{State}
use Rattle.number.specs.Refused.{bad_state, done, no_place_left, no_such_thread, too_short}
use Rattle.rows.specs.Rows.{over}
use Rattle.rows.specs.Stored.{over_at, over_later}
use Rattle.schedule.specs.Schedule.{events_in, events_of}
use Rattle.schedule.specs.Theorems.{length_events}
use Rattle.machine.specs.Step.{advance, step}
use Rattle.run.specs.Conditions.{Accepted, First, conditions}
use Rattle.run.specs.Proof.Refused.{accepted, not_refused, refused_exactly}
use Rattle.run.specs.Run.{answers_of, ran, ran_over, refusal, report_of, reported, run, run_bytes, step_answers, taken}
use Rattle.run.specs.declared.Ran.{Ran}

-- the same answers and the same end make the same result
same_run : {told told' : List ℕ} {s s' : State} → told ≡ told' → s ≡ s' → ran (report_of told) s ≡ ran (report_of told') s'
same_run g e = λ i. ran (report_of (g i)) (e i)

module _ (s : State) (b out : List ℕ) where
  -- ---- a run that is refused
  pub refused : (m : ℕ) → refusal s b (length out) ≡ m → m ≢ done → (run s b out ≡ ran (reported 0 0 m) s) × (run_bytes s b out ≡ out)
  unfolding run run_bytes
  refused m e off = rw (e, ne_eqb m done off) (refl, refl)

  -- ---- a run that is not
  module _ (a : Accepted s b (length out)) where
    pub gives : run s b out ≡ ran_over s b
    unfolding run
    gives = rw (not_refused s b (length out) a)

    pub stores : run_bytes s b out ≡ over (answers_of s b) out
    unfolding run_bytes
    stores = rw (not_refused s b (length out) a)

    pub report_of_lem : (run s b out).report ≡ report_of (answers_of s b)
    unfolding ran_over
    report_of_lem = ap (λ (r : Ran). r.report) gives

    pub state_of : (run s b out).state ≡ row_end advance s (events_of b)
    unfolding ran_over
    state_of = ap (λ (r : Ran). r.state) gives

    -- of answers and an end that are the row's, it is the report and the state
    gives_these : {told : List ℕ} {s' : State} → told ≡ answers_of s b → s' ≡ row_end advance s (events_of b)
        → (run s b out ≡ ran (report_of told) s') × (run_bytes s b out ≡ over told out)
    unfolding ran_over
    gives_these g e = (gives ∙ sym (same_run g e), stores ∙ ap (λ (l : List ℕ). over l out) (sym g))

    -- ---- the row of the steps, each of which judges its state
    pub answers_by_step : answers_of s b ≡ row_answers step s (events_of b)
    answers_by_step = (judged_once s (events_of b) a.state).0

    abbrev given : List ℕ
    given = step_answers s b

    pub answers_given : answers_of s b ≡ given
    answers_given = answers_by_step ∙ row_of_steps step s (events_of b)

    pub run_row : (run s b out ≡ ran (report_of given) (after step s (take (length given) (events_of b)))) × (run_bytes s b out ≡ over given out)
    run_row =
        let end : row_end advance s (events_of b) ≡ after step s (take (length given) (events_of b)) =
        (judged_once s (events_of b) a.state).1 ∙ row_end_lem step s (events_of b) ∙ rw (row_of_steps step s (events_of b)) in
        gives_these (sym answers_given) (sym end)

    -- ---- its bytes
    pub at_place : (i : ℕ) → i < length given → get_or (run_bytes s b out) i 0 ≡ get_or given i 0
    at_place i l = rw run_row.1 (over_at given out i l)

    pub later_stay : (i : ℕ) → length given ≤ i → get_or (run_bytes s b out) i 0 ≡ get_or out i 0
    later_stay i l = rw run_row.1 (over_later given out i l)

    -- ---- the figure's run
    pub run_figure : (told : List ℕ) (s' : State) → FigureRun s (events_of b) told s'
        → (run s b out ≡ ran (report_of told) s') × (run_bytes s b out ≡ over told out)
    run_figure told s' f = let only = figure_run_only s (events_of b) told s' a.state f in gives_these only.0 only.1

    pub is_figure : FigureRun s (events_of b) given (run s b out).state
    is_figure = rw (← answers_given, state_of) (row_figure s (events_of b) a.state)

    -- ---- where it ends
    pub run_valid : Valid (run s b out).state
    run_valid = rw state_of (row_valid s (events_of b) a.state)

    pub run_size : SameSize s (run s b out).state
    run_size = rw state_of (row_size s (events_of b) a.state)

    pub stop_of : (run s b out).report.stop ≡ stopping (answers_of s b)
    unfolding report_of
    stop_of = rw report_of_lem

    pub run_stops : (run s b out).report.stop ≢ done → Between no_such_thread (run s b out).report.stop no_place_left
    run_stops = rw stop_of (stopping_5_to_11 s (events_of b) a.state)

    pub stops_or_not : ((run s b out).report.stop ≡ done) ⊎ Between no_such_thread (run s b out).report.stop no_place_left
    stops_or_not = by_cases (ℕ_discrete (run s b out).report.stop done) inl (λ off. inr (run_stops off))

    -- ---- how many events it takes
    pub answered : length (answers_of s b) ≤ events_in b
    answered = rw (← length_events b) (row_length advance s (events_of b))

    -- where it stops, those executed, those that waited, and the one that stopped
    pub taken_all : (run s b out).report.stop ≢ done → taken (run s b out).report ≡ length (answers_of s b)
    unfolding report_of
    taken_all off = rw report_of_lem (rw (ne_eqb _ _ (rw stop_of at off)) at (row_counts advance s (events_of b)))

  -- ---- a number of 1 to 4 in a report always means a refusal
  pub stop_exactly : Sized s → (m : ℕ) → Between bad_state m too_short → ((run s b out).report.stop ≡ m) ↔ First (conditions s b (length out)) m
  stop_exactly sized m low = (to, from)
    where
      -- a run that is not refused has no such number
      not_low : Accepted s b (length out) → (run s b out).report.stop ≡ m → ⊥
      not_low a e = let high = run_stops a (λ z. omega (arith, low.from)) in omega (arith, low.to, high.from)

      to : (run s b out).report.stop ≡ m → First (conditions s b (length out)) m
      to e =
          by_cases (ℕ_discrete (refusal s b (length out)) done)
          (λ none. absurd (not_low (accepted s b (length out) sized none) e))
          (λ off. (refused_exactly s b (length out) sized m).0 (sym (ap (λ (r : Ran). r.report.stop) (refused _ refl off).0) ∙ e))

      from : First (conditions s b (length out)) m → (run s b out).report.stop ≡ m
      from f = ap (λ (r : Ran). r.report.stop) (refused m ((refused_exactly s b (length out) sized m).1 f) (λ z. omega (arith, low.from))).0
