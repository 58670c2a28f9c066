-- Four machines of which demand 3 is false, so that a reader sees that its statements can fail, and by what. Each is the step with what one line does
-- replaced: one does not wait at 19, and three are document 01's "Shortcuts that break the lock". With each comes a list of events from a fresh lock,
-- told as a story, after which one of `OneInside`, `SomeCanStep` and `PassagesPrefix` is false; and what our step does with the very same events, so
-- that the machine and not the list is seen to be at fault. Last, a tool that never moves: it does not take the figure's steps. The facts are computed.
-- Rests on Demands and the step. Assumes nothing.
use Rattle.std.specs.Prelude.{cond, ◌&&◌, List, [], ◌∷◌, ◌++◌, ◌≢◌, ◌≡◌, refl, ℕ, zero, suc, eqb, get_or}
use Rattle.std.proofs.Common.{true≢false, ap, sym, arith}
use Rattle.machine.specs.Acts.{perform}
use Rattle.events.specs.Events.{◌times◌, accepts_all, after, event}
use Rattle.events.specs.Row.{goes_on}
use Rattle.events.specs.declared.Event.{Event}
use Rattle.figure.specs.Figure.Figure.{line11}
use Rattle.figure.specs.Figure.{◌⟪flag≔◌⟫, ◌⟪line◌≔◌⟫, ◌⟪locked◌≔◌⟫, ◌⟪low≔◌⟫, ◌⟪tail≔◌⟫, line, low, my, next, succ}
use Rattle.lines.specs.Lines.{line_at}
use Rattle.lock.specs.Fresh.{fresh_state, idle_to}
use Rattle.lock.specs.Valid.{Between, nodes_valid, shared_valid, threads_valid, valid}
use Rattle.lock.specs.declared.State.{State}
use Rattle.number.specs.Numbers.{behind, bottom, is_bottom, node, thread}
use Rattle.number.specs.Refused.{done, must_wait}
use Rattle.number.specs.declared.NodeNo.{NodeNo}
use Rattle.number.specs.declared.ThreadNo.{ThreadNo}
use Rattle.machine.specs.Refusals.{refusal}
use Rattle.machine.specs.Demands.{Tool}
use Rattle.machine.specs.Step.{advance, step, stepped}
use Rattle.theory.specs.Demands.{Busy, Demand3, OneInside, PassagesPrefix, SomeCanStep, done_at, exchanges, idle_line, passages, section_line}
use Rattle.theory.specs.FigureSteps.{FigureSteps, Within}
use Rattle.theory.specs.FigureSteps.FigureSteps.{no_steps, one_step}
use Rattle.word.specs.Word.{alone_in, in_use, put_in, take_out}

-- ---- one line replaced

-- The step, with what line l does replaced: where the step would execute line l, or wait there, the act is done and the answer is 0. All else is the
-- step's, its other refusals too. (The `unfolding` line names what a list of events computes by, once for all that is computed below.)
unfoldable pub spoilt : ℕ → (State → ThreadNo → State) → Tool
unfolding after done_at idle_to valid shared_valid nodes_valid threads_valid line_at in_use alone_in put_in take_out refusal perform advance step
spoilt l act s t n =
    let r = step s t n in
    cond (eqb (line s t) l && goes_on r.answer) (stepped done (act s t)) r

-- What the figure's 29 does, with node k for succ: it unlocks k, or raises the flag if k is 0, and leaves.
abbrev pub hand_on : NodeNo → State → ThreadNo → State
hand_on k s t = cond (is_bottom k) (s ⟪flag≔ 1 ⟫) (s ⟪locked k ≔ 0 ⟫) ⟪low≔ behind (low s) ⟫ ⟪line t ≔ 11 ⟫

-- ---- how a statement fails

-- Threads 1 and 2 both stand at the critical section.
pub record TwoInside (s : State) : Type 0 where
  pub first : line s (thread 1) ≡ section_line
  pub second : line s (thread 2) ≡ section_line

-- There are two threads: the first is idle, and the second waits at 19.
pub record Stuck (tool : Tool) (s : State) : Type 0 where
  pub two : s.shared.threads ≡ 2
  pub first : line s (thread 1) ≡ idle_line
  pub second : line s (thread 2) ≡ 19
  pub waits : (tool s (thread 2) bottom).answer ≡ must_wait

-- Thread 2 was second to exchange the tail, and thread 3 is second to pass.
pub record OutOfOrder (tool : Tool) (s : State) (es : List Event) : Type 0 where
  pub exchanged : exchanges tool s es ≡ thread 1 ∷ thread 2 ∷ thread 3 ∷ []
  pub passed : passages tool s es ≡ thread 1 ∷ thread 3 ∷ []

-- With two inside it is false that "never do two threads stand at the critical section".
two_inside : {s : State} → TwoInside s → ¬ OneInside s
two_inside both one =
    let same = ap (λ (t : ThreadNo). t.0) (one (thread 1) (thread 2) both.first both.second) in
    omega (arith, same)

-- what holds of 1 and of 2 holds from 1 to 2
of_two : (P : ℕ → Type 0) → P 1 → P 2 → (n : ℕ) → Between 1 n 2 → P n
of_two P one two zero b = absurd (omega arith)
of_two P one two (suc zero) b = one
of_two P one two (suc (suc zero)) b = two
of_two P one two (suc (suc (suc n))) b = absurd (omega arith)

-- Where they are stuck it is false that "if some thread has left its idle line, some such thread can step".
none_can_step : {tool : Tool} {s : State} → Stuck tool s → ¬ SomeCanStep tool s
none_can_step {tool} {s} stuck some = refused (some (thread 2) (record { exists = omega arith; off = λ h. omega arith }))
  where
    refused : (u : ThreadNo) × Busy s u × ((tool s u bottom).answer ≡ done) → ⊥
    refused (u, busy, accepted) =
        of_two (λ n. line s (thread n) ≢ idle_line → (tool s (thread n) bottom).answer ≢ done)
        (λ off h. off stuck.first)
        (λ off h. omega arith)
        u.0
        (omega arith)
        busy.off
        accepted

-- Out of order, it is false that "the n-th passage through it is made by the thread that made the n-th tail exchange".
out_of_order : {tool : Tool} {s : State} {es : List Event} → OutOfOrder tool s es → ¬ PassagesPrefix tool s es
out_of_order order (rest, begins) =
    let second = ap (λ (ts : List ThreadNo). (get_or ts 1 (thread 0)).0) (rw (order.exchanged, order.passed) at begins) in
    omega (arith, second)

-- ---- how two of the stories begin

-- Thread 1 exchanges the tail with node 1, lines 11 to 14; thread 2, with node 2, queues up behind it as far as its wait, lines 11 to 15 and 18.
abbrev pub queue_up : List Event
queue_up = event 1 1 ∷ (3 times event 1 0) ++ event 2 2 ∷ (5 times event 2 0)

-- ---- 19 not waiting

-- 19 | goes on, whatever locked(my) is | 20
unfoldable pub never_waits : Tool
unfolding spoilt
never_waits = spoilt 19 (λ s t. s ⟪line t ≔ 20 ⟫)

-- T = K = 2. Thread 1 goes to the critical section, and thread 2, behind it in the queue, does not wait for it.
abbrev pub follows_in : List Event
follows_in =
    queue_up
    -- thread 1: 15 to 17, 20, 21, 25, 26
    ++ (7 times event 1 0)
    -- thread 2: 19 to 22, 25, 26
    ++ (6 times event 2 0)

-- what the story reaches
pub never_waits_reaches : TwoInside (after never_waits (fresh_state 2 2) follows_in)
unfolding never_waits
never_waits_reaches = record { first = refl; second = refl }

-- After the story two threads stand at the critical section.
pub never_waits_two_inside : ¬ OneInside (after never_waits (fresh_state 2 2) follows_in)
never_waits_two_inside = two_inside never_waits_reaches

-- So this machine does not meet demand 3.
pub never_waits_fails : ¬ Demand3 never_waits
never_waits_fails d = never_waits_two_inside (d.holds 2 2 (omega arith) (omega arith) follows_in).one_inside

-- Our step, given the same events, leaves thread 2 at 19.
pub follows_in_ours : line (after step (fresh_state 2 2) follows_in) (thread 2) ≡ 19
unfolding spoilt
follows_in_ours = refl

-- ---- "Line 22 as a plain store of 0: a newcomer is cut off."

-- 22 | tail := 0, whatever it was | 25, as if it had been my
unfoldable pub plain_store : Tool
unfolding spoilt
plain_store = spoilt 22 (λ s t. s ⟪tail≔ bottom ⟫ ⟪line t ≔ 25 ⟫)

-- T = K = 2. Thread 1 finds no successor at 20. Thread 2 queues up behind it. Thread 1 stores 0, passes and raises the flag: nobody is left to unlock
-- thread 2.
abbrev pub cut_off : List Event
cut_off =
    -- thread 1: 11 to 17, 20, 21
    event 1 1 ∷ (8 times event 1 0)
    -- thread 2: 11 to 15, 18
    ++ event 2 2 ∷ (5 times event 2 0)
    -- thread 1: 22, 25 to 29
    ++ (6 times event 1 0)

-- what the story reaches
pub plain_store_reaches : Stuck plain_store (after plain_store (fresh_state 2 2) cut_off)
unfolding plain_store
plain_store_reaches = record { two = refl; first = refl; second = refl; waits = refl }

-- After the story thread 2 has left its idle line, and no such thread can step.
pub plain_store_none_can_step : ¬ SomeCanStep plain_store (after plain_store (fresh_state 2 2) cut_off)
plain_store_none_can_step = none_can_step plain_store_reaches

-- So this machine does not meet demand 3.
pub plain_store_fails : ¬ Demand3 plain_store
plain_store_fails d = plain_store_none_can_step (d.holds 2 2 (omega arith) (omega arith) cut_off).some_can_step

-- With our step, given the same events, thread 1 has found its successor and is at 28, past the section, and can step.
pub cut_off_ours : let s = after step (fresh_state 2 2) cut_off in (line s (thread 1) ≡ 28) × ((step s (thread 1) bottom).answer ≡ done)
unfolding spoilt
cut_off_ours = (refl, refl)

-- ---- "Raising the flag as well as unlocking a successor at 29."

-- 29 | if succ is not 0, locked(succ) := 0; flag := 1 in any case; low + 1 | 11
unfoldable pub raises_flag_too : Tool
unfolding spoilt
raises_flag_too = spoilt 29 (λ s t. hand_on (succ s t) s t ⟪flag≔ 1 ⟫)

-- T = K = 2. Thread 1 passes and unlocks thread 2, which empties the tail and goes to the critical section. Thread 1 comes again, finds the tail empty
-- and the flag up, and goes there as well.
abbrev pub handed_on_twice : List Event
handed_on_twice =
    queue_up
    -- thread 1: 15 to 17, 20, 21, 25 to 29
    ++ (10 times event 1 0)
    -- thread 2: 19 to 22, 25, 26
    ++ (6 times event 2 0)
    -- thread 1: 11 to 17, 20 to 22, 25, 26
    ++ event 1 1 ∷ (11 times event 1 0)

-- what the story reaches
pub raises_flag_too_reaches : TwoInside (after raises_flag_too (fresh_state 2 2) handed_on_twice)
unfolding raises_flag_too
raises_flag_too_reaches = record { first = refl; second = refl }

-- After the story two threads stand at the critical section.
pub raises_flag_too_two_inside : ¬ OneInside (after raises_flag_too (fresh_state 2 2) handed_on_twice)
raises_flag_too_two_inside = two_inside raises_flag_too_reaches

-- So this machine does not meet demand 3.
pub raises_flag_too_fails : ¬ Demand3 raises_flag_too
raises_flag_too_fails d = raises_flag_too_two_inside (d.holds 2 2 (omega arith) (omega arith) handed_on_twice).one_inside

-- Our step, given the same events, leaves thread 1 at 16.
pub handed_on_twice_ours : line (after step (fresh_state 2 2) handed_on_twice) (thread 1) ≡ 16
unfolding spoilt
handed_on_twice_ours = refl

-- ---- "Reading next(my) again at 29: the node may already serve another thread."

-- 29 | if next(my) is not 0, locked(next(my)) := 0, else flag := 1; low + 1 | 11. (The crate `cases` tries this shortcut against demand 2, and there it
-- also judges whether next(my) is in use.)
unfoldable pub reads_next_again : Tool
unfolding spoilt
reads_next_again = spoilt 29 (λ s t. hand_on (next s (my s t)) s t)

-- T = 3, K = 2 (two threads do not show it: docs/DECISIONS.md, D9). Thread 1 has no successor, and releases node 1 before the critical section. Thread 2
-- takes node 1 and goes to wait for the flag; thread 3 queues up behind it, and next of node 1 is now thread 3's node. Thread 1 reads it at 29 and unlocks
-- thread 3, which passes ahead of thread 2.
abbrev pub node_serves_another : List Event
node_serves_another =
    -- thread 1, with node 1: 11 to 17, 20 to 22, 25, 26
    event 1 1 ∷ (11 times event 1 0)
    -- thread 2, with node 1: 11 to 15
    ++ event 2 1 ∷ (4 times event 2 0)
    -- thread 3, with node 2: 11 to 15, 18
    ++ event 3 2 ∷ (5 times event 3 0)
    -- thread 1: 27 to 29
    ++ (3 times event 1 0)
    -- thread 3: 19 to 22, 25 to 27
    ++ (7 times event 3 0)

-- what the story makes
pub reads_next_again_makes : OutOfOrder reads_next_again (fresh_state 3 2) node_serves_another
unfolding reads_next_again
reads_next_again_makes = record { exchanged = refl; passed = refl }

-- In the story the second passage is not made by the thread that made the second exchange.
pub reads_next_again_out_of_order : ¬ PassagesPrefix reads_next_again (fresh_state 3 2) node_serves_another
reads_next_again_out_of_order = out_of_order reads_next_again_makes

-- So this machine does not meet demand 3.
pub reads_next_again_fails : ¬ Demand3 reads_next_again
reads_next_again_fails d = reads_next_again_out_of_order (d.holds 3 2 (omega arith) (omega arith) node_serves_another).passages_prefix

-- With our step, given the same events, only thread 1 passes.
pub node_serves_another_ours : passages step (fresh_state 3 2) node_serves_another ≡ thread 1 ∷ []
unfolding spoilt
node_serves_another_ours = refl

-- ---- "a tool that never moves can't earn it"

-- It refuses every event, so it stays fresh: what demand 3 says of its events and states is true, and says nothing. (The crate `cases` tries the same tool
-- against demand 2.)
unfoldable pub never_moves : Tool
never_moves s t n = stepped must_wait s

-- the figure's first step of thread 1, with node 1
abbrev pub first_step : List Event
first_step = event 1 1 ∷ []

pub first_step_figure : FigureSteps (fresh_state 1 1) first_step (step (fresh_state 1 1) (thread 1) (node 1)).state
unfolding spoilt
first_step_figure =
    let within : Within (fresh_state 1 1) (event 1 1) =
    record { thread = omega arith; named = λ off. absurd (off refl); within = λ _. omega arith; entries = λ _. omega arith } in
    one_step within (line11 refl (λ z. omega arith) refl refl) no_steps

-- But it does not take the figure's steps, and so does not meet demand 3.
pub never_moves_fails : ¬ Demand3 never_moves
unfolding never_moves accepts_all
never_moves_fails d = true≢false (sym (d.takes_figure 1 1 (omega arith) (omega arith) first_step _ first_step_figure).0)
