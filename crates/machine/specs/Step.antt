-- One event: "One event executes one line of one thread." The executable definition that the step's contract cites. What it means is said by the
-- theorems (Theorems.antt, here and in proofs/), against Figure 1 and against the conditions of document 01. Assumes nothing.
use Rattle.std.specs.Prelude.{Bool, cond, ◌||◌, ℕ, eqb, ltb}
use Rattle.figure.specs.Figure.{line}
use Rattle.lines.specs.Lines.{line_at}
use Rattle.lock.specs.State.{thread_at}
use Rattle.lock.specs.Valid.{valid}
use Rattle.lock.specs.declared.State.{State}
use Rattle.number.specs.Refused.{bad_state, done, no_such_thread}
use Rattle.number.specs.declared.NodeNo.{NodeNo}
use Rattle.number.specs.declared.ThreadNo.{ThreadNo}
use Rattle.machine.specs.Acts.{followed_by, moved}
use Rattle.machine.specs.Refusals.{refusal}
use Rattle.machine.specs.Stepped.{Stepped}

-- 5: "the event's thread is not 1 to T"
abbrev pub no_thread : ℕ → ThreadNo → Bool
no_thread threads t = eqb t.0 0 || ltb threads t.0

abbrev pub stepped : ℕ → State → Stepped
stepped answer s = record { answer = answer; state = s }

-- the number that stops an event and the state as it was, or 0 and the state after it
abbrev pub stop_or : ℕ → State → State → Stepped
stop_or number s after = cond (eqb number done) (stepped done after) (stepped number s)

-- ---- line l of thread t, given node n. The line's number stands apart from the state, so that a proof can name it.

-- the node that it follows
abbrev pub followed : ℕ → State → ThreadNo → NodeNo
followed l s t = followed_by (line_at l).follow (thread_at s t)

-- its refusal, or 0
abbrev pub refusal_of : ℕ → State → ThreadNo → NodeNo → ℕ
refusal_of l s t n = refusal s (line_at l) (followed l s t) n

-- the state after it
abbrev pub after : ℕ → State → ThreadNo → NodeNo → State
after l s t n = moved s t (followed l s t) (line_at l) n

-- its event: 6 to 12, else the line's changes
abbrev pub advance_by : ℕ → State → ThreadNo → NodeNo → Stepped
advance_by l s t n = stop_or (refusal_of l s t n) s (after l s t n)

-- ---- the step

-- an event in a state that was judged before: 5, then 6 to 12, else the changes of the thread's line
unfoldable pub advance : State → ThreadNo → NodeNo → Stepped
advance s t n = cond (no_thread s.shared.threads t) (stepped no_such_thread s) (advance_by (line s t) s t n)

-- an event: 1 before all else
unfoldable pub step : State → ThreadNo → NodeNo → Stepped
step s t n = cond (valid s) (advance s t n) (stepped bad_state s)
