-- Demand 3, proved: what every run from a fresh lock has. The statements are those of specs/Demands, for every T and K from 1 to 32 and every list of events,
-- or every schedule and buffer that `run` is given. The arguments are beside this, over the shape of the queue (specs/). Assumes nothing.
use Rattle.std.specs.Prelude.{List, refl, ℕ}
use Rattle.std.proofs.Common.{subst, sym}
use Rattle.events.specs.Events.{after}
use Rattle.events.specs.declared.Event.{Event}
use Rattle.lock.specs.Fresh.{fresh_state}
use Rattle.lock.specs.Valid.{Valid}
use Rattle.lock.specs.declared.State.{State}
use Rattle.machine.specs.Step.{step}
use Rattle.theory.specs.Demands.{Demand3, DoneAreFigure, EnteredCount, FreeExactly, FromFresh, Holds, Never9To11, NthPassage, OneHolds, OneInside}
use Rattle.theory.specs.Demands.{PassagesPrefix, PassesOnce, RunHolds, SomeCanStep, TakesFigure, events_taken}
use Rattle.theory.specs.FigureSteps.{FigureSteps}
use Rattle.theory.proofs.Passages
use Rattle.theory.specs.Proof.Reached.{start_reached}
use Rattle.theory.proofs.Reaches.{fresh_reached}
use Rattle.theory.proofs.Runs
use Rattle.theory.proofs.States
use Rattle.theory.proofs.Taken

-- ---- every list of events from a fresh lock

-- Never do two threads stand at the critical section.
pub one_inside : FromFresh (λ s. (es : List Event) → OneInside (after step s es))
one_inside T K threads nodes es = States.one_inside (fresh_reached T K threads nodes es)

-- More than is demanded: never do two threads hold the lock, at lines 20 to 29.
pub one_holds : FromFresh (λ s. (es : List Event) → OneHolds (after step s es))
one_holds T K threads nodes es = States.one_holds (fresh_reached T K threads nodes es)

-- The threads that passed are the first of those that exchanged the tail, in their order ..
pub passages_prefix : FromFresh (λ s. (es : List Event) → PassagesPrefix step s es)
passages_prefix T K threads nodes es = Passages.passed_prefix (fresh_reached T K threads nodes es)

-- .. so the n-th passage is made by the thread that made the n-th tail exchange.
pub nth_passage : FromFresh (λ s. (es : List Event) → NthPassage step s es)
nth_passage T K threads nodes es = Passages.nth_passage (fresh_state T K) es (passages_prefix T K threads nodes es)

-- After a thread's exchange and before its passage, each other thread passes at most once.
pub passes_once : FromFresh (λ s. (es : List Event) → PassesOnce step s es)
passes_once T K threads nodes = Passages.passes_once (start_reached T K threads nodes)

-- If some thread has left its idle line, some such thread can step.
pub some_can_step : FromFresh (λ s. (es : List Event) → SomeCanStep step (after step s es))
some_can_step T K threads nodes es = States.some_can_step (fresh_reached T K threads nodes es)

-- No event is answered 9, 10 or 11.
pub never_9_to_11 : FromFresh (λ s. (es : List Event) → Never9To11 step s es)
never_9_to_11 T K threads nodes es = Passages.never_answered (start_reached T K threads nodes) es

-- Entered is high - 1 plus the number of threads at lines 12 to 14.
pub entered_count : FromFresh (λ s. (es : List Event) → EnteredCount (after step s es))
entered_count T K threads nodes es = States.entered_count (fresh_reached T K threads nodes es)

-- The lock is free exactly when low = high.
pub free_exactly : FromFresh (λ s. (es : List Event) → FreeExactly (after step s es))
free_exactly T K threads nodes es = States.free_exactly (fresh_reached T K threads nodes es)

-- The state stays valid.
pub stays_valid : FromFresh (λ s. (es : List Event) → Valid (after step s es))
stays_valid T K threads nodes es = (fresh_reached T K threads nodes es).valid

-- ---- the figure's steps

-- Every sequence of the figure's steps from a fresh lock, by threads 1 to T with nodes 1 to K while entries remain, is accepted, and leads where the figure
-- leads ..
pub takes_figure : TakesFigure step
takes_figure T K threads nodes = Taken.takes_figure (start_reached T K threads nodes)

-- .. and the events that are done, whatever the list, are steps of the figure.
pub done_are_figure : DoneAreFigure step
done_are_figure T K threads nodes = Taken.done_are_figure (start_reached T K threads nodes)

-- ---- demand 3

-- All of it, of the events and the state that they lead to.
holds : FromFresh (λ s. (es : List Event) → Holds step s es (after step s es))
holds T K threads nodes es = record {
  leads = refl;
  one_inside = one_inside T K threads nodes es;
  passages_prefix = passages_prefix T K threads nodes es;
  passes_once = passes_once T K threads nodes es;
  some_can_step = some_can_step T K threads nodes es;
  never_9_to_11 = never_9_to_11 T K threads nodes es;
  entered_count = entered_count T K threads nodes es;
  free_exactly = free_exactly T K threads nodes es;
  valid = stays_valid T K threads nodes es;
}

-- Our step meets demand 3.
pub demand_3 : Demand3 step
demand_3 = record { takes_figure = takes_figure; done_are_figure = done_are_figure; holds = holds }

-- So the figure itself does: all of it holds wherever the figure's own steps lead.
pub figure_demand_3 : FromFresh (λ s. (es : List Event) (s' : State) → FigureSteps s es s' → Holds step s es s')
figure_demand_3 T K threads nodes es s' f =
    subst (Holds step (fresh_state T K) es) (takes_figure T K threads nodes es s' f).1 (holds T K threads nodes es)

-- And so does every run from a fresh lock: all of it holds of the events that the run takes and of the state that it gives, and neither its stopping number
-- nor a byte that it stores is 9, 10 or 11.
pub run_demand_3 : FromFresh (λ s. (b out : List ℕ) → RunHolds s b out)
run_demand_3 T K threads nodes b out =
    let s = fresh_state T K in
    let r = start_reached T K threads nodes in
    record {
      holds = subst (Holds step s (events_taken s b out)) (sym (Runs.run_end r b out)) (holds T K threads nodes (events_taken s b out));
      stop_never = Runs.stop_never r b out;
      bytes_never = Runs.bytes_never r b out;
    }
