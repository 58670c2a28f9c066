-- Demand 2 for a run, as a statement about any tool that is offered as one: its counts are the zeros and the waits of the figure's answers. "A run that
-- invents its executed or waited count is shut out by demand 2, as the counts equal the zeros and twelves of the figure's answers." Two such runs stand
-- here; Theorems.antt proves that our run counts so, and that neither of the two does. Assumes nothing.
use Rattle.std.specs.Prelude.{List, ◌≡◌, ℕ, ◌+◌, length}
use Rattle.events.specs.FigureRun.{FigureRun}
use Rattle.events.specs.Row.{executed, waited}
use Rattle.lock.specs.declared.State.{State}
use Rattle.schedule.specs.Schedule.{events_of}
use Rattle.run.specs.Conditions.{Accepted}
use Rattle.run.specs.Run.{ran, reported, run}
use Rattle.run.specs.declared.Ran.{Ran}

-- what is offered as a run: a report and a state for every state, schedule and answer buffer
abbrev pub RunTool : Type 0
RunTool = State → List ℕ → List ℕ → Ran

-- Where nothing refuses the run, and the figure answers the schedule's events so, the executed are the zeros and the waited the waits among the answers.
abbrev pub Counted : RunTool → Type 0
Counted tool =
    (s : State) (b out told : List ℕ) (s' : State) → Accepted s b (length out) → FigureRun s (events_of b) told s'
    → ((tool s b out).report.executed ≡ executed told) × ((tool s b out).report.waited ≡ waited told)

-- ---- runs that invent a count

-- a count that is made up from what the run was given
abbrev pub Invented : Type 0
Invented = State → List ℕ → List ℕ → ℕ

-- our run, with a made up number of events executed
abbrev pub executed_by : Invented → RunTool
executed_by count s b out = let r = run s b out in ran (reported (count s b out) r.report.waited r.report.stop) r.state

-- our run, with a made up number of events waited
abbrev pub waited_by : Invented → RunTool
waited_by count s b out = let r = run s b out in ran (reported r.report.executed (count s b out) r.report.stop) r.state

-- one event too many is said to be executed
abbrev pub invents_executed : RunTool
invents_executed = executed_by (λ s b out. (run s b out).report.executed + 1)

-- one event too many is said to have waited
abbrev pub invents_waited : RunTool
invents_waited = waited_by (λ s b out. (run s b out).report.waited + 1)
