-- A complete tool over events that the step accepts: it does what the step does, and so it passes the cases that the step passes. By induction over
-- the events. Rests on `complete_same` and `valid_kept` of Theorems (crate `machine`). Assumes nothing.
use Rattle.std.specs.Prelude.{false, true, ◌≡◌, eqb}
use Rattle.std.proofs.Common.{true≢false, sym, ◌∙◌}
use mathlib.Core.List.{List, [], ◌∷◌}
use Rattle.std.proofs.Math.Path.{refl}
use borrow.Author.Tests.{eqb-true}
use Rattle.lock.specs.Valid.{Valid}
use Rattle.lock.specs.declared.State.{State}
use Rattle.number.specs.Refused.{done}
use Rattle.number.specs.Tests.{first_holds, second_holds}
use Rattle.machine.specs.Step.{step}
use Rattle.machine.specs.Theorems.{Complete, Tool, valid_kept}
use Rattle.machine.proofs.Theorems.{complete_same}
use Rattle.cases.specs.Case.{Case, passes}
use Rattle.events.specs.Events.{accepts_all, after, answers, lines_done}
use Rattle.events.specs.declared.Event.{Event}

-- the tool gives the same answers, executes the same lines, and reaches the same state as the step
pub record SameRun (tool : Tool) (s : State) (es : List Event) : Type 0 where
  pub answers : answers tool s es ≡ answers step s es
  pub lines : lines_done tool s es ≡ lines_done step s es
  pub reached : after tool s es ≡ after step s es

-- the case starts from a valid state, and the step accepts each of its events and passes it
pub record Accepted (c : Case) : Type 0 where
  pub from_valid : Valid c.start.state
  pub accepted : accepts_all step c.start.state c.events ≡ true
  pub passed : passes step c ≡ true

module _ (tool : Tool) (is-complete : Complete tool) where
  -- A complete tool has the step's run, over events that the step accepts one after the other from a valid state.
  pub same_run : (s : State) → Valid s → (es : List Event) → accepts_all step s es ≡ true → SameRun tool s es
  unfolding answers lines_done after accepts_all
  same_run s rule [] h = record { answers = refl; lines = refl; reached = refl }
  same_run s rule (e ∷ es) h =
      let t = e.thread in
      let n = e.node in
      let s' = (step s t n).state in
      let accepts : (step s t n).answer ≡ done = eqb-true _ _ (first_holds _ _ h) in
      let same : tool s t n ≡ step s t n = complete_same tool is-complete s t n rule accepts in
      let later = same_run s' (valid_kept s t n rule accepts) es (second_holds (eqb (step s t n).answer done) _ h) in
      record { answers = rw (same, later.answers); lines = rw (same, later.lines); reached = rw (same, later.reached) }

  -- So it passes the cases that the step passes, accepting each event.
  pub passes_too : (c : Case) → Accepted c → passes tool c ≡ true
  unfolding passes
  passes_too c a =
      let r = same_run c.start.state a.from_valid c.events a.accepted in
      rw (r.answers, r.lines, r.reached) a.passed

  -- In short: a tool that fails one of these is not complete.
  pub fails_none : (c : Case) → Accepted c → passes tool c ≡ false → ⊥
  fails_none c a failed = true≢false (sym (passes_too c a) ∙ failed)
