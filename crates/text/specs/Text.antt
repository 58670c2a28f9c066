-- Document 01, "The printing program and one whole run": the text of a schedule's run from fresh, byte for byte, and what the call that writes it gives.
-- The lines are made from the states and answers of the row of steps (crates `machine`, `events`), the end line from the run (crate `run`) and the questions
-- status and waiting (crate `ask`). Assumes nothing.
use Rattle.std.specs.Prelude.{cond, not, List, [], ◌∷◌, ◌++◌, ℕ, ◌+◌, ◌<◌, eqb, ltb, length}
use Rattle.ask.specs.Ask.{status, waiting}
use Rattle.events.specs.Row.{goes_on}
use Rattle.events.specs.declared.Event.{Event}
use Rattle.lock.specs.Fresh.{fresh}
use Rattle.lock.specs.State.{thread_at}
use Rattle.lock.specs.declared.State.{State}
use Rattle.number.specs.First.{Condition, ◌given-when◌}
use Rattle.number.specs.Refused.{Refusal, ◌if◌, bad_schedule, done, first_of, too_short}
use Rattle.rows.specs.Rows.{over}
use Rattle.run.specs.Run.{ran_over}
use Rattle.run.specs.declared.Ran.{Ran}
use Rattle.schedule.specs.Schedule.{GoodSchedule, events_of, good, heading_of}
use Rattle.machine.specs.Step.{advance, no_thread}
use Rattle.machine.specs.Stepped.{Stepped}
use Rattle.text.specs.Decimal.{decimal, letters}
use Rattle.text.specs.Written.{Written}

-- ---- "with one space between fields and a line end after each line"
abbrev pub space : ℕ
space = 32

abbrev pub line_end : ℕ
line_end = 10

-- numbers as the fields of a line, to its end
unfoldable pub numbers : List ℕ → List ℕ
numbers [] = []
numbers (n ∷ []) = decimal n ++ line_end ∷ []
numbers (n ∷ m ∷ ns) = decimal n ++ space ∷ numbers (m ∷ ns)

-- ---- the lines

-- "the heading shown below"
abbrev pub heading : List ℕ
heading = letters "n thread line answer tail flag low high" ++ line_end ∷ []

-- "line before it (0 if no such thread)"
unfoldable pub line_before : State → Event → ℕ
line_before s e = cond (no_thread s.shared.threads e.thread) 0 (thread_at s e.thread).line

-- "for each event its number from 1, thread, line before it (0 if no such thread), answer, then tail, flag, low, high after it": event e is the n-th,
-- s the state before it, and r its answer with the state after it
abbrev pub event_fields : ℕ → State → Event → Stepped → List ℕ
event_fields n s e r =
    let after = r.state.shared in
    n ∷ e.thread.0 ∷ line_before s e ∷ r.answer ∷ after.tail.0 ∷ after.flag ∷ after.low.0 ∷ after.high.0 ∷ []

unfoldable pub event_line : ℕ → State → Event → Stepped → List ℕ
event_line n s e r = numbers (event_fields n s e r)

-- the lines of these events from state s, the first of them being the n-th; "the stopping event is the last shown"
unfoldable pub event_lines : ℕ → State → List Event → List ℕ
event_lines n s [] = []
event_lines n s (e ∷ es) =
    let r = advance s e.thread e.node in
    let later = event_lines (n + 1) r.state es in
    event_line n s e r ++ cond (goes_on r.answer) later []

-- "The last line has the word `end`, then events executed, waited, stopping number, status, waiting."
abbrev pub end_fields : Ran → List ℕ
end_fields r = r.report.executed ∷ r.report.waited ∷ r.report.stop ∷ (status r.state).value ∷ (waiting r.state).value ∷ []

unfoldable pub end_line : Ran → List ℕ
end_line r = letters "end" ++ space ∷ numbers (end_fields r)

-- ---- the text

-- "runs it from fresh": the state that schedule b is run from
abbrev pub begin : List ℕ → State
begin b = (fresh (heading_of b).threads (heading_of b).nodes).state

-- the lines of its events, and its last line
abbrev pub lines_of : List ℕ → List ℕ
lines_of b = event_lines 1 (begin b) (events_of b)

abbrev pub last_of : List ℕ → List ℕ
last_of b = end_line (ran_over (begin b) b)

-- the whole text of schedule b
unfoldable pub text_of : List ℕ → List ℕ
text_of b = heading ++ lines_of b ++ last_of b

-- What no text of a good schedule is longer than: the heading's 40 bytes, 37 for each of at most 16,383 events, and 24 for the last line (`text_fits` of
-- proofs/Theorems.antt).
abbrev pub most_text : ℕ
most_text = 606_235

-- ---- what the call gives

-- 2, "the schedule breaks a rule above"; then 4, "a lent output is too short": for the text of schedule b, in a buffer of so many bytes
abbrev pub text_conditions : List ℕ → ℕ → List Condition
text_conditions b room = bad_schedule given-when (¬ GoodSchedule b) ∷ too_short given-when (room < length (text_of b)) ∷ []

-- the same, as the code tests it
abbrev pub text_refusals : List ℕ → ℕ → List Refusal
text_refusals b room = bad_schedule if not (good b) ∷ too_short if ltb room (length (text_of b)) ∷ []

unfoldable pub text_number : List ℕ → ℕ → ℕ
text_number b room = first_of (text_refusals b room)

abbrev pub written : ℕ → ℕ → Written
written number size = record { number = number; size = size }

-- 0 and how many bytes the text has; a refusal, and 0
unfoldable pub text : List ℕ → List ℕ → Written
text b out =
    let number = text_number b (length out) in
    written number (cond (eqb number done) (length (text_of b)) 0)

-- the text at the start of the buffer, bytes after it stay; "Every refusal leaves .. all lent bytes unchanged"
unfoldable pub text_bytes : List ℕ → List ℕ → List ℕ
text_bytes b out = cond (eqb (text_number b (length out)) done) (over (text_of b) out) out

-- ---- what the printing program prints

-- "A bad schedule, or a longer input, prints only `refused 2`."
abbrev pub refused_text : List ℕ
refused_text = letters "refused 2" ++ line_end ∷ []

-- for an input b; "Otherwise" its text
unfoldable pub printed : List ℕ → List ℕ
printed b = cond (good b) (text_of b) refused_text
