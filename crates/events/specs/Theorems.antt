-- What a row of events promises: the theorems that a run rests on, each under a plain sentence. First for every tool that takes the step's place, then for
-- our step from a valid state, last against Figure 1. The arguments are in Proof; the laws of a loop over events are in Laws. Assumes nothing.
use Rattle.std.specs.Prelude.{cond, false, List, [], ◌∷◌, ◌++◌, ◌≢◌, ◌≡◌, ℕ, ◌+◌, ◌≤◌, eqb, length, take}
use Rattle.lock.specs.Valid.{Between, SameSize, Valid}
use Rattle.lock.specs.declared.State.{State}
use Rattle.number.specs.Refused.{done, no_place_left, no_such_thread}
use Rattle.number.specs.declared.NodeNo.{NodeNo}
use Rattle.number.specs.declared.ThreadNo.{ThreadNo}
use Rattle.machine.specs.Demands.{Tool}
use Rattle.machine.specs.Step.{advance, step}
use Rattle.events.specs.Events.{after, answers}
use Rattle.events.specs.FigureRun.{FigureRun}
use Rattle.events.specs.Proof.Against
use Rattle.events.specs.Proof.Answers
use Rattle.events.specs.Proof.Judged
use Rattle.events.specs.Proof.Rows
use Rattle.events.specs.Row.{executed, executes, goes_on, row_answers, row_end, stopping, up_to_stop, waited, waits}
use Rattle.events.specs.declared.Event.{Event}

-- ---- a row, under any tool

-- The row is that of the steps one after the other, up to and including the one that stops ..
pub row_of_steps : (tool : Tool) (s : State) (es : List Event) → row_answers tool s es ≡ up_to_stop (answers tool s es)
row_of_steps = Rows.of_steps

-- .. and it ends in the state after the events that were answered.
pub row_end_lem : (tool : Tool) (s : State) (es : List Event) → row_end tool s es ≡ after tool s (take (length (row_answers tool s es)) es)
row_end_lem = Rows.end_of_steps

-- There are at most as many answers as events ..
pub row_length : (tool : Tool) (s : State) (es : List Event) → length (row_answers tool s es) ≤ length es
row_length = Rows.at_most

-- .. and one for each event where none stops.
pub row_length_all : (tool : Tool) (s : State) (es : List Event) → stopping (row_answers tool s es) ≡ done → length (row_answers tool s es) ≡ length es
row_length_all = Rows.as_many

-- Every answer is counted once: as an event executed, as an event waited, or as the one that stops.
pub row_counts : (tool : Tool) (s : State) (es : List Event)
    → let given = row_answers tool s es in executed given + waited given + cond (eqb (stopping given) done) 0 1 ≡ length given
row_counts = Rows.counted

-- ---- a row in two parts

-- If the first part does not stop, the second goes on from its end: the answers follow one another, and the row ends where the second part does.
pub row_split : (tool : Tool) (s : State) (es later : List Event) → stopping (row_answers tool s es) ≡ done
    → (row_answers tool s (es ++ later) ≡ row_answers tool s es ++ row_answers tool (row_end tool s es) later)
    × (row_end tool s (es ++ later) ≡ row_end tool (row_end tool s es) later)
row_split tool s es later on = let j = Rows.joined tool later s es on in (j.answers, j.end)

-- The counts of the parts add up ..
pub executed_append : (front rest : List ℕ) → executed (front ++ rest) ≡ executed front + executed rest
executed_append = Answers.count_append executes

pub waited_append : (front rest : List ℕ) → waited (front ++ rest) ≡ waited front + waited rest
waited_append = Answers.count_append waits

-- .. and the stopping number is that of the second.
pub stopping_append : (front rest : List ℕ) → stopping front ≡ done → stopping (front ++ rest) ≡ stopping rest
stopping_append = Answers.stopping_append

-- If the first part stops, no later event is taken.
pub row_stopped : (tool : Tool) (s : State) (es later : List Event) → stopping (row_answers tool s es) ≢ done
    → (row_answers tool s (es ++ later) ≡ row_answers tool s es) × (row_end tool s (es ++ later) ≡ row_end tool s es)
row_stopped tool s es later off = let u = Rows.untaken tool later s es off in (u.answers, u.end)

-- If the first part does not stop and the event behind it does, the row has that one answer more, and ends in the state that the tool gives with it.
pub row_stop : (tool : Tool) (s : State) (es : List Event) (e : Event) (later : List Event) → stopping (row_answers tool s es) ≡ done
    → let r = tool (row_end tool s es) e.thread e.node in goes_on r.answer ≡ false
    → (row_answers tool s (es ++ e ∷ later) ≡ row_answers tool s es ++ r.answer ∷ [])
    × (row_end tool s (es ++ e ∷ later) ≡ r.state)
    × (length (row_answers tool s (es ++ e ∷ later)) ≡ length es + 1)
row_stop tool s es e later on h =
    (Rows.stop_answers tool s es on e later h, Rows.stop_end tool s es on e later h, Rows.stop_length tool s es on e later h)

-- An answer that stops is not 0.
pub stop_not_done : (a : ℕ) → goes_on a ≡ false → a ≢ done
stop_not_done = Answers.stop_not_done

-- ---- our step, from a valid state

-- To judge each state of a row again would change nothing: it is enough to judge the start.
pub judged_once : (s : State) (es : List Event) → Valid s
    → (row_answers advance s es ≡ row_answers step s es) × (row_end advance s es ≡ row_end step s es)
judged_once s es rule = let same = Judged.judged_once s es rule in (same.answers, same.end)

-- A row ends in a valid state ..
pub row_valid : (s : State) (es : List Event) → Valid s → Valid (row_end advance s es)
row_valid = Judged.row_valid

-- .. with the same T and K.
pub row_size : (s : State) (es : List Event) → Valid s → SameSize s (row_end advance s es)
row_size = Judged.row_size

-- An event that stops leaves the state: the row ends where the events before it lead.
pub row_stop_stays : (s : State) (es : List Event) (e : Event) (later : List Event) → Valid s → stopping (row_answers advance s es) ≡ done
    → goes_on (advance (row_end advance s es) e.thread e.node).answer ≡ false → row_end advance s (es ++ e ∷ later) ≡ row_end advance s es
row_stop_stays = Judged.row_stop_stays

-- "5 to 11 stop it": an answer that stops is one of these ..
pub stops_5_to_11 : (s : State) (t : ThreadNo) (n : NodeNo) → Valid s → goes_on (advance s t n).answer ≡ false
    → Between no_such_thread (advance s t n).answer no_place_left
stops_5_to_11 = Judged.stops_within

-- .. and so is the stopping number of a row, if it is not 0.
pub stopping_5_to_11 : (s : State) (es : List Event) → Valid s → stopping (row_answers advance s es) ≢ done
    → Between no_such_thread (stopping (row_answers advance s es)) no_place_left
stopping_5_to_11 = Judged.row_stops_within

-- ---- against Figure 1

-- A row from a valid state is a run of the figure: its answers, its end, and so its counts are those of the figure and of document 01's table.
pub row_figure : (s : State) (es : List Event) → Valid s → FigureRun s es (row_answers advance s es) (row_end advance s es)
row_figure = Against.row_figure

-- The figure and the table leave no second run.
pub figure_run_only : (s : State) (es : List Event) (told : List ℕ) (s' : State) → Valid s → FigureRun s es told s'
    → (told ≡ row_answers advance s es) × (s' ≡ row_end advance s es)
figure_run_only s es told s' = Against.figure_run_only
