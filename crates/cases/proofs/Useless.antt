-- The four useless tools of specs/Useless are each shown to break demand 2 by the case that document 01 names: it fails the case, which is computed, and a
-- complete tool passes it (SameRun.antt). Three of them also accept what Figure 1 does not allow. Rests on SameRun and on Theorems (crate `machine`).
-- Assumes nothing.
use Rattle.std.specs.Prelude.{◌≡◌, refl}
use Rattle.std.proofs.Common.{ap, arith}
use Rattle.machine.specs.Acts.{perform}
use Rattle.ask.specs.Ask.{how_many_threads_to, status as status_asked, status_of}
use Rattle.lines.specs.Lines.{line_at}
use Rattle.lock.specs.Fresh.{fresh, fresh_state, idle_to}
use Rattle.lock.specs.State.{thread_at}
use Rattle.lock.specs.Theorems.{fresh_valid}
use Rattle.lock.specs.Valid.{nodes_valid, shared_valid, threads_valid, valid}
use Rattle.number.specs.Numbers.{node, thread}
use Rattle.number.specs.Refused.{done}
use Rattle.number.specs.declared.NodeNo.{NodeNo}
use Rattle.machine.specs.Refusals.{refusal}
use Rattle.machine.specs.Conditions.{Follows}
use Rattle.machine.specs.Conditions.Follows.{my_at, prev_at, succ_at}
use Rattle.machine.specs.Step.{advance, step, stepped}
use Rattle.machine.specs.Theorems.{Complete, Possible, Sound, Tool}
use Rattle.machine.proofs.Theorems.{complete}
use Rattle.machine.specs.Stepped.{Stepped}
use Rattle.word.specs.Word.{alone_in, in_use, put_in, take_out}
use Rattle.cases.specs.Case.{line, low, passes}
use Rattle.cases.specs.Cases.{alone, queued}
use Rattle.events.specs.Events.{accepts_all, after, answers}
use Rattle.cases.specs.SameRun.{fails_none}
use Rattle.cases.specs.Useless.{Tried, always_fresh, first, refuses_all, stands_still, whole_at_once}

-- ---- the step and the tools, tried on P2 (`alone`) and on P6 (`queued`)

pub tried : Tried
unfolding refuses_all always_fresh stands_still whole_at_once alone queued passes accepts_all answers after
    fresh idle_to valid shared_valid nodes_valid threads_valid line_at in_use alone_in put_in take_out refusal perform advance step
    status_asked status_of how_many_threads_to
tried = record {
  P2 = record { from_valid = fresh_valid 2 2 refl; accepted = refl; passed = refl };
  P6 = record { from_valid = fresh_valid 2 2 refl; accepted = refl; passed = refl };
  refuses_all_answers = refl;
  refuses_all_fails = refl;
  always_fresh_low = refl;
  always_fresh_fails = refl;
  stands_still_low = refl;
  stands_still_fails = refl;
  whole_at_once_passes_P2 = refl;
  whole_at_once_prev = refl;
  whole_at_once_fails = refl;
  first_line_lem = refl;
  first_low = refl;
  fresh_line = refl;
  whole_at_once_first = refl;
  whole_at_once_low = refl;
}

-- ---- the four theorems, "demand 2, by P2" and "demand 2, by P6"

-- A tool that refuses all steps is not complete.
pub refuses_all_useless : Complete refuses_all → ⊥
refuses_all_useless c = fails_none refuses_all c alone tried.P2 tried.refuses_all_fails

-- A tool that always gives the fresh state is not complete.
pub always_fresh_useless : Complete always_fresh → ⊥
always_fresh_useless c = fails_none always_fresh c alone tried.P2 tried.always_fresh_fails

-- A tool that leaves the state alone and reports 0 is not complete.
pub stands_still_useless : Complete stands_still → ⊥
stands_still_useless c = fails_none stands_still c alone tried.P2 tried.stands_still_fails

-- A tool that does the whole passage at line 11 and then only moves line numbers is not complete.
pub whole_at_once_useless : Complete whole_at_once → ⊥
whole_at_once_useless c = fails_none whole_at_once c queued tried.P6 tried.whole_at_once_fails

-- ---- the three that accept are not sound either: the first event of P2 shows it

-- The first event of P2 is possible: line 11 follows no node, and nothing is used up.
follows_none : (k : NodeNo) → Follows (thread_at (fresh_state 2 2) (thread 1)) k → ⊥
unfolding idle_to
follows_none k (my_at h e) = h
follows_none k (prev_at h e) = omega arith
follows_none k (succ_at h z e) = omega arith

first_possible : Possible (fresh_state 2 2) (thread 1) (node 1)
unfolding idle_to
first_possible = record {
  thread = omega arith;
  named = λ h. absurd (h refl);
  within = λ h. omega arith;
  entries = λ h. omega arith;
  high_places = λ h. omega arith;
  low_places = λ h. omega arith;
  followed = λ k f. absurd (follows_none k f);
}

-- A sound tool that accepts the first event of P2 leads where the step leads.
sound_first : (tool : Tool) → Sound tool → (first tool).answer ≡ done → first step ≡ stepped done (first tool).state
sound_first tool sound h =
    let v = fresh_valid 2 2 refl in
    complete (fresh_state 2 2) (thread 1) (node 1) (first tool).state v first_possible (sound (fresh_state 2 2) (thread 1) (node 1) v h)

-- A tool that always gives the fresh state is not sound.
pub always_fresh_unsound : Sound always_fresh → ⊥
unfolding always_fresh
always_fresh_unsound h =
    let e = ap (λ (r : Stepped). line 1 r.state) (sound_first always_fresh h refl) in
    omega (arith, e, tried.first_line_lem, tried.fresh_line)

-- A tool that leaves the state alone and reports 0 is not sound.
pub stands_still_unsound : Sound stands_still → ⊥
unfolding stands_still
stands_still_unsound h =
    let e = ap (λ (r : Stepped). line 1 r.state) (sound_first stands_still h refl) in
    omega (arith, e, tried.first_line_lem, tried.fresh_line)

-- A tool that does the whole passage at line 11 is not sound.
pub whole_at_once_unsound : Sound whole_at_once → ⊥
whole_at_once_unsound h =
    let e = ap (λ (r : Stepped). low r.state) (sound_first whole_at_once h tried.whole_at_once_first) in
    omega (arith, e, tried.first_low, tried.whole_at_once_low)
