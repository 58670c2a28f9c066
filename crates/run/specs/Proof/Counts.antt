-- Demand 2 for a run: our run counts the zeros and the waits of the figure's answers, and so no run that is so counted has other counts. A run over no
-- events at all shows that the two broken runs are not. Rests on Runs. Assumes nothing.
use Rattle.std.specs.Prelude.{List, [], ◌≡◌, refl, ℕ, length}
use Rattle.std.proofs.Common.{ap, sym, ◌∙◌, arith}
use Rattle.lock.specs.Fresh.{fresh_state}
use Rattle.lock.specs.Theorems.{fresh_valid}
use Rattle.lock.specs.declared.State.{State}
use Rattle.schedule.specs.Schedule.{schedule_of}
use Rattle.run.specs.Conditions.{Accepted}
use Rattle.run.specs.Demands.{Counted, RunTool, invents_executed, invents_waited}
use Rattle.run.specs.Proof.Refused.{accepted_written}
use Rattle.run.specs.Proof.Runs.{is_figure, run_figure}
use Rattle.run.specs.Run.{report_of, run}
use Rattle.run.specs.declared.Ran.{Ran}

pub run_counted : Counted run
unfolding report_of
run_counted s b out told s' a f =
    let e = (run_figure s b out a told s' f).0 in
    (ap (λ (r : Ran). r.report.executed) e, ap (λ (r : Ran). r.report.waited) e)

-- by the figure's run that ours is
pub counted_same : (tool : RunTool) → Counted tool → (s : State) (b out : List ℕ) → Accepted s b (length out)
    → ((tool s b out).report.executed ≡ (run s b out).report.executed) × ((tool s b out).report.waited ≡ (run s b out).report.waited)
counted_same tool counted s b out a =
    let theirs = counted s b out _ _ a (is_figure s b out a) in
    let ours = run_counted s b out _ _ a (is_figure s b out a) in
    (theirs.0 ∙ sym ours.0, theirs.1 ∙ sym ours.1)

-- ---- broken runs

-- nothing refuses a run of the fresh state with one thread and one node over no events
no_events : Accepted (fresh_state 1 1) (schedule_of 1 1 []) 0
no_events = accepted_written 1 1 [] (fresh_state 1 1) 0 (fresh_valid 1 1 refl) refl refl (omega arith) (omega arith)

pub invents_executed_lem : Counted invents_executed → ⊥
invents_executed_lem counted = let same = (counted_same invents_executed counted (fresh_state 1 1) (schedule_of 1 1 []) [] no_events).0 in omega arith

pub invents_waited_lem : Counted invents_waited → ⊥
invents_waited_lem counted = let same = (counted_same invents_waited counted (fresh_state 1 1) (schedule_of 1 1 []) [] no_events).1 in omega arith
