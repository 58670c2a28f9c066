-- The lines of a run's events as numbers: the fields of each line, for the theorems on what the lines show. Also document 01's run, as its own lines.
-- Assumes nothing.
use Rattle.std.specs.Prelude.{cond, List, [], ◌∷◌, ◌++◌, ℕ, ◌+◌, get_or}
use Prim.Native.String.{String}
use Rattle.events.specs.Events.{event}
use Rattle.events.specs.Row.{goes_on}
use Rattle.events.specs.declared.Event.{Event}
use Rattle.lock.specs.declared.State.{State}
use Rattle.schedule.specs.Schedule.{events_of, schedule_of}
use Rattle.machine.specs.Step.{advance}
use Rattle.text.specs.Decimal.{letters}
use Rattle.text.specs.Text.{begin, event_fields, line_end, numbers}

-- ---- the fields of the lines

-- those of each event's line from state s, the first event being the n-th
unfoldable pub fields_from : ℕ → State → List Event → List (List ℕ)
fields_from n s [] = []
fields_from n s (e ∷ es) =
    let r = advance s e.thread e.node in
    let later = fields_from (n + 1) r.state es in
    event_fields n s e r ∷ cond (goes_on r.answer) later []

-- those of the lines of schedule b
abbrev pub fields_of : List ℕ → List (List ℕ)
fields_of b = fields_from 1 (begin b) (events_of b)

-- a line's answer: "its number from 1, thread, line before it .., answer"
abbrev pub answer_in : List ℕ → ℕ
answer_in fields = get_or fields 3 0

-- lines of numbers, one after the other
unfoldable pub lines_with : List (List ℕ) → List ℕ
lines_with [] = []
lines_with (fields ∷ later) = numbers fields ++ lines_with later

-- ---- document 01's run

-- lines of letters, one after the other
unfoldable pub page : List String → List ℕ
page [] = []
page (line ∷ later) = letters line ++ line_end ∷ page later

-- "T = K = 1, events (1,1), (1,0), (1,0), (1,0), (2,0)"
abbrev pub whole_run : List ℕ
whole_run = schedule_of 1 1 (event 1 1 ∷ event 1 0 ∷ event 1 0 ∷ event 1 0 ∷ event 2 0 ∷ [])

abbrev pub whole_text : List String
whole_text =
    "n thread line answer tail flag low high"
    ∷ "1 1 11 0 0 1 1 1"
    ∷ "2 1 12 0 0 1 1 1"
    ∷ "3 1 13 0 0 1 1 1"
    ∷ "4 1 14 0 1 1 1 2"
    ∷ "5 2 0 5 1 1 1 2"
    ∷ "end 4 0 5 3 0"
    ∷ []
