-- Document 01, "How tight the promises are": "Four useless tools are to be tried against the promises". Each is defined here under the document's own
-- words, and beside them what is tried of each. That each breaks demand 2 by the case that the document names, and that three of them also accept what
-- Figure 1 does not allow, is proved in proofs/Useless: `refuses_all_useless`, `always_fresh_useless`, `stands_still_useless`, `whole_at_once_useless`,
-- `always_fresh_unsound`, `stands_still_unsound`, `whole_at_once_unsound`. Assumes nothing.
use Rattle.std.specs.Prelude.{cond, false, true, List, ◌∷◌, ◌≡◌, eqb, replicate}
use Rattle.figure.specs.Figure.{◌⟪line◌≔◌⟫}
use Rattle.lines.specs.Lines.{line_at}
use Rattle.lock.specs.Fresh.{fresh_state}
use Rattle.lock.specs.State.{thread_at}
use Rattle.number.specs.Numbers.{node, bottom, thread}
use Rattle.number.specs.Refused.{done, must_wait}
use Rattle.number.specs.declared.NodeNo.{NodeNo}
use Rattle.number.specs.declared.ThreadNo.{ThreadNo}
use Rattle.machine.specs.Step.{step, stepped}
use Rattle.machine.specs.Theorems.{Tool}
use Rattle.machine.specs.Stepped.{Stepped}
use Rattle.cases.specs.Case.{line, low, passes, prev}
use Rattle.cases.specs.Cases.{alone, both_through14, passage, queued}
use Rattle.events.specs.Events.{◌times◌, after, answers}
use Rattle.events.specs.declared.Event.{Event}
use Rattle.cases.specs.SameRun.{Accepted}

-- ---- the tools

-- "one that refuses all steps"
unfoldable pub refuses_all : Tool
refuses_all s t n = stepped must_wait s

-- "one that always gives the fresh state"
unfoldable pub always_fresh : Tool
always_fresh s t n = stepped done (fresh_state s.shared.threads s.shared.nodes)

-- "one that leaves the state alone and reports 0"
unfoldable pub stands_still : Tool
stands_still s t n = stepped done s

-- the fifteen events of a passage of thread t alone, with node n: P2 for any thread and node
abbrev pub passage_of : ThreadNo → NodeNo → List Event
passage_of t n = record { thread = t; node = n } ∷ (14 times record { thread = t; node = bottom })

-- "one that does the whole passage at line 11 and then only moves line numbers": as the table of lines says for a thread that is alone
unfoldable pub whole_at_once : Tool
whole_at_once s t n =
    let now = (thread_at s t).line in
    cond (eqb now 11) (stepped done (after step s (passage_of t n) ⟪line t ≔ 12 ⟫)) (stepped done (s ⟪line t ≔ (line_at now).goes ⟫))

-- ---- the step and the tools, tried on P2 (`alone`) and on P6 (`queued`)

-- what a tool does at the first event of P2
abbrev pub first : Tool → Stepped
first tool = tool (fresh_state 2 2) (thread 1) (node 1)

pub record Tried : Type 0 where
  -- the step accepts the events of both cases, and passes them
  pub P2 : Accepted alone
  pub P6 : Accepted queued
  -- P2: all 0
  pub refuses_all_answers : answers refuses_all (fresh_state 2 2) passage ≡ replicate 15 must_wait
  pub refuses_all_fails : passes refuses_all alone ≡ false
  -- P2: low = 2
  pub always_fresh_low : low (after always_fresh (fresh_state 2 2) passage) ≡ 1
  pub always_fresh_fails : passes always_fresh alone ≡ false
  pub stands_still_low : low (after stands_still (fresh_state 2 2) passage) ≡ 1
  pub stands_still_fails : passes stands_still alone ≡ false
  -- P6: prev of thread 2 is 1. (P2 alone does not tell this tool from the step.)
  pub whole_at_once_passes_P2 : passes whole_at_once alone ≡ true
  pub whole_at_once_prev : prev 2 (after whole_at_once (fresh_state 2 2) both_through14) ≡ 0
  pub whole_at_once_fails : passes whole_at_once queued ≡ false
  -- the first event of P2: 11 leads to 12, and leaves low alone
  pub first_line_lem : line 1 (first step).state ≡ 12
  pub first_low : low (first step).state ≡ 1
  pub fresh_line : line 1 (fresh_state 2 2) ≡ 11
  pub whole_at_once_first : (first whole_at_once).answer ≡ done
  pub whole_at_once_low : low (first whole_at_once).state ≡ 2
