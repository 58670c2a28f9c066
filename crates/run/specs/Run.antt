-- Document 01, the run: "A run takes a state, a schedule and an answer buffer with a byte for each event." First what it refuses, then what it gives,
-- then the unread part of the schedule. The answers are those of a row of steps (crate `events`). Assumes nothing.
use Rattle.std.specs.Prelude.{Bool, cond, not, ◌||◌, List, [], ◌∷◌, ℕ, ◌+◌, min, eqb, leb, ltb, drop, length}
use Rattle.events.specs.Events.{answers}
use Rattle.events.specs.Row.{executed, row_answers, row_end, stopping, up_to_stop, waited}
use Rattle.lock.specs.Valid.{valid}
use Rattle.lock.specs.declared.State.{State}
use Rattle.number.specs.Refused.{Refusal, ◌if◌, bad_schedule, bad_size, bad_state, done, first_of, too_short}
use Rattle.rows.specs.Rows.{over}
use Rattle.schedule.specs.Schedule.{events_in, events_of, good, heading_of, start_of}
use Rattle.schedule.specs.declared.Heading.{Heading}
use Rattle.machine.specs.Step.{advance, step}
use Rattle.run.specs.declared.Ran.{Ran}
use Rattle.run.specs.declared.Report.{Report}

-- ---- "Refusals 1 to 4 come before the first event and change nothing."

-- 3: "schedule and state differ in T or K"
abbrev pub differ : ℕ → ℕ → Heading → Bool
differ threads nodes h = not (eqb threads h.threads) || not (eqb nodes h.nodes)

-- 2 to 4, of schedule b and a state with these T and K, with so many bytes for the answers
abbrev pub schedule_refusals : ℕ → ℕ → List ℕ → ℕ → List Refusal
schedule_refusals threads nodes b room =
    bad_schedule if not (good b)
    ∷ bad_size if differ threads nodes (heading_of b)
    ∷ too_short if ltb room (events_in b)
    ∷ []

-- the refusals of a run from state s
abbrev pub refusals : State → List ℕ → ℕ → List Refusal
refusals s b room = bad_state if not (valid s) ∷ schedule_refusals s.shared.threads s.shared.nodes b room

-- the first that applies, or 0
unfoldable pub refusal : State → List ℕ → ℕ → ℕ
refusal s b room = first_of (refusals s b room)

-- ---- what a run gives

abbrev pub reported : ℕ → ℕ → ℕ → Report
reported executed waited stop = record { executed = executed; waited = waited; stop = stop }

abbrev pub ran : Report → State → Ran
ran report s = record { report = report; state = s }

-- "reports events executed (answer 0), events waited (answer 12) and the stopping number, or 0", of these answers
unfoldable pub report_of : List ℕ → Report
report_of answers = reported (executed answers) (waited answers) (stopping answers)

-- the answers to the events of schedule b, one after the other up to and including the stop
abbrev pub answers_of : State → List ℕ → List ℕ
answers_of s b = row_answers advance s (events_of b)

-- the answers of the steps, each of which judges its state, one after the other up to and including the stop; they are the same (`answers_of_steps`)
abbrev pub step_answers : State → List ℕ → List ℕ
step_answers s b = up_to_stop (answers step s (events_of b))

-- "The run gives the state it ends in and reports ..", where nothing refuses it
unfoldable pub ran_over : State → List ℕ → Ran
ran_over s b = ran (report_of (answers_of s b)) (row_end advance s (events_of b))

-- "after refusals 1 to 4 the counts are 0 and that number stands as the stopping one"; the state is as it came
unfoldable pub run : State → List ℕ → List ℕ → Ran
run s b out =
    let number = refusal s b (length out) in
    cond (eqb number done) (ran_over s b) (ran (reported 0 0 number) s)

-- "Then each event's answer is stored at its place. .. Later answer bytes, and bytes past the last event, stay."
unfoldable pub run_bytes : State → List ℕ → List ℕ → List ℕ
run_bytes s b out = cond (eqb (refusal s b (length out)) done) (over (answers_of s b) out) out

-- ---- "It also hands back the unread part of the caller's own schedule"

-- 1 to 4, which "come before the first event"; 0 was told apart before
abbrev pub before_events : ℕ → Bool
before_events number = leb number too_short

-- how many events a report that a stop ended has taken: those executed, those that waited, and the one that stopped
abbrev pub taken : Report → ℕ
taken r = r.executed + r.waited + 1

-- a place of b, or its end where the place lies past it
abbrev pub up_to_end : ℕ → List ℕ → ℕ
up_to_end place b = min place (length b)

-- where the unread part begins: "what follows the stopping event, nothing if none stopped it, the whole of it after refusals 1 to 4"
unfoldable pub unread_from : List ℕ → Report → ℕ
unread_from b r = cond (eqb r.stop done) (length b) (cond (before_events r.stop) 0 (up_to_end (start_of (taken r)) b))

-- what is handed back: the bytes from there on ..
abbrev pub unread : List ℕ → Report → List ℕ
unread b r = drop (unread_from b r) b

-- .. and no copy of them: they lie in the caller's own memory, so many bytes on. (To the prover a slice is the place where it lies, which is a block and
-- a place in the block, and the bytes that stand there.)
abbrev pub onward : ℕ × ℕ → ℕ → ℕ × ℕ
onward place n = (place.0, place.1 + n)
