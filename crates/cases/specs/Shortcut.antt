-- Document 01, "Shortcuts that break the lock", two of them; the others are edits of the crates `lines` and `event` (.ci/edits/). Rests on SameRun.
--
-- "Calling it free because tail is 0 (P3)": in P3 tail is 0 while thread 1 stands inside.
--
-- "Reading next(my) again at 29: the node may already serve another thread (P9)." P9 has two threads, and with two threads the shortcut shows nothing;
-- with three it does: thread 1 has released node 1, thread 3 takes it and clears its next, and then thread 1 would find no successor at 29, raise the
-- flag, and leave thread 2 locked. The shortcut as a tool, and that it breaks demand 2 by this run. Assumes nothing.
use Rattle.std.specs.Prelude.{cond, false, List, [], ◌∷◌, ◌++◌, ◌≡◌, refl, ℕ, eqb, replicate, take}
use Rattle.machine.specs.Acts.{perform}
use Rattle.ask.specs.Ask.{answered, free, held, how_many_threads_to, status, status_of}
use Rattle.figure.specs.Figure.{◌⟪succ◌≔◌⟫, my, next, succ}
use Rattle.lines.specs.Lines.{line_at}
use Rattle.lock.specs.Fresh.{fresh, fresh_state, idle_to}
use Rattle.lock.specs.State.{thread_at}
use Rattle.lock.specs.Theorems.{fresh_valid}
use Rattle.lock.specs.Valid.{nodes_valid, shared_valid, threads_valid, valid}
use Rattle.lock.specs.declared.State.{State}
use Rattle.number.specs.Numbers.{is_bottom}
use Rattle.machine.specs.Refusals.{refusal}
use Rattle.machine.specs.Step.{advance, step, stepped}
use Rattle.machine.specs.Theorems.{Complete, Tool}
use Rattle.word.specs.Word.{alone_in, in_use, put_in, take_out}
use Rattle.cases.specs.Case.{Case, ◌is◌, as_expected, begins, equal, flag, line, locked, passes, tail}
use Rattle.cases.specs.Cases.{passage}
use Rattle.events.specs.Events.{◌times◌, accepts_all, after, answers, event, lines_done}
use Rattle.events.specs.declared.Event.{Event}
use Rattle.cases.specs.SameRun.{Accepted, fails_none}

-- ---- free because tail is 0

-- the state of P3: the first ten events of P2
abbrev pub inside : State
inside = after step (fresh_state 2 2) (take 10 passage)

-- free because tail is 0, and else as the question says
abbrev pub free_by_tail : State → ℕ
free_by_tail s = cond (is_bottom s.shared.tail) free (status_of s)

-- In P3 tail is 0, thread 1 is at line 25 and so inside, and the status is 2, held; the shortcut would call it free.
pub record NotFree : Type 0 where
  pub tail_empty : tail inside ≡ 0
  pub thread_inside : line 1 inside ≡ 25
  pub asked : status inside ≡ answered held
  pub shortcut : free_by_tail inside ≡ free

pub not_free : NotFree
unfolding after idle_to valid shared_valid nodes_valid threads_valid line_at in_use alone_in put_in take_out refusal perform advance step status status_of
    how_many_threads_to
not_free = record { tail_empty = refl; thread_inside = refl; asked = refl; shortcut = refl }

-- ---- next(my) read again at 29

-- at 29 next(my) stands for succ; elsewhere it is the step
unfoldable pub reads_next_again : Tool
reads_next_again s t n =
    let r = step (s ⟪succ t ≔ next s (my s t) ⟫) t n in
    cond (eqb (thread_at s t).line 29) (stepped r.answer (r.state ⟪succ t ≔ succ s t ⟫)) (step s t n)

-- threads 1 and 2 queue up, thread 1 runs to its section, thread 3 takes node 1 and does 12, and thread 1 goes on to the end of 29
abbrev pub node_taken_again : List Event
node_taken_again =
    event 1 1 ∷ (3 times event 1 0)
    ++ event 2 2 ∷ (5 times event 2 0)
    ++ (7 times event 1 0)
    ++ event 3 1 ∷ event 3 0 ∷ (3 times event 1 0)

-- thread 2 is unlocked, and the flag stays down
unfoldable pub handed_on : Case
handed_on = record {
  start = fresh 3 2;
  events = node_taken_again;
  answers = replicate 22 0;
  lines = 11 ∷ 12 ∷ 13 ∷ 14 ∷ 11 ∷ 12 ∷ 13 ∷ 14 ∷ 15 ∷ 18 ∷ 15 ∷ 16 ∷ 17 ∷ 20 ∷ 21 ∷ 25 ∷ 26 ∷ 11 ∷ 12 ∷ 27 ∷ 28 ∷ 29 ∷ [];
  numbers = locked 2 is 0 ∷ flag is 0 ∷ [];
}

-- what computes: the step passes, and the shortcut leaves thread 2 locked and the flag up
pub record Tried : Type 0 where
  pub stepped_on : Accepted handed_on
  pub still_locked : locked 2 (after reads_next_again handed_on.start.state node_taken_again) ≡ 1
  pub flag_up : flag (after reads_next_again handed_on.start.state node_taken_again) ≡ 1
  pub fails : passes reads_next_again handed_on ≡ false

tried : Tried
unfolding reads_next_again handed_on passes equal begins as_expected accepts_all answers after lines_done fresh idle_to valid shared_valid nodes_valid threads_valid
    line_at in_use alone_in put_in take_out refusal perform advance step
tried = record {
  stepped_on = record { from_valid = fresh_valid 3 2 refl; accepted = refl; passed = refl };
  still_locked = refl;
  flag_up = refl;
  fails = refl;
}

-- A tool that reads next(my) again at 29 is not complete.
pub reads_next_again_useless : Complete reads_next_again → ⊥
reads_next_again_useless c = fails_none reads_next_again c handed_on tried.stepped_on tried.fails
