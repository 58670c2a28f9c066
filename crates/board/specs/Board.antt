-- The calls for C and Rust. They work on saved states in bytes, as document 01 lays them out, and each is the call of a crate below on the state that the
-- bytes hold: for each call its number, its values and its bytes, and when each number is given. Theorems.antt says what they come to. Assumes nothing.
use Rattle.std.specs.Prelude.{Bool, cond, not, ◌&&◌, List, [], ◌∷◌, ◌≢◌, ◌⊎◌, ◌≡◌, ℕ, ◌<◌, eqb, leb, ltb, length}
use Rattle.ask.specs.Ask.{chain, chain_bytes, nodes_in_use, status, waiting}
use Rattle.ask.specs.Asked.{Asked}
use Rattle.lent.specs.Lent.{lent_answer, lent_bytes}
use Rattle.lock.specs.Fresh.{fresh_state, in_size}
use Rattle.lock.specs.Valid.{Between}
use Rattle.lock.specs.declared.State.{State}
use Rattle.number.specs.First.{Condition, ◌given-when◌}
use Rattle.number.specs.Numbers.{node, thread}
use Rattle.number.specs.Refused.{Refusal, ◌if◌, bad_schedule, bad_size, bad_state, done, first_of, too_short, wrong_node}
use Rattle.number.specs.Sizes.{most_nodes, most_threads}
use Rattle.rows.specs.Rows.{over}
use Rattle.run.specs.Run.{run, run_bytes, unread_from}
use Rattle.run.specs.declared.Ran.{Ran}
use Rattle.run.specs.declared.Report.{Report}
use Rattle.saved.specs.Saved.{SavedFile, bytes_of, read, size}
use Rattle.schedule.specs.Schedule.{GoodSchedule, events_in, heading_of}

-- ---- the state that bytes hold

-- "a refused reading .. gives a state with 0 everywhere". That one breaks a rule too (T is 0), so a call on it gives 1 as well.
abbrev pub held_in : List ℕ → State
held_in b = (read b).state

-- 1 | the saved state breaks a rule above
abbrev pub saved_conditions : List ℕ → List Condition
saved_conditions b = bad_state given-when (¬ SavedFile b) ∷ []

-- ---- sedge_fresh

abbrev pub fresh_conditions : ℕ → ℕ → List ℕ → List Condition
fresh_conditions T K out =
    -- 3 | a fresh state is asked with T or K outside 1 to 32
    bad_size given-when ((¬ Between 1 T most_threads) ⊎ (¬ Between 1 K most_nodes))
    -- 4 | a lent output is too short: "Length is exactly 23 + 4K + 11T"
    ∷ too_short given-when (length out < size T K)
    ∷ []

-- the same, as tests
abbrev pub fresh_refusals : ℕ → ℕ → List ℕ → List Refusal
fresh_refusals T K out = bad_size if not (in_size T K) ∷ too_short if ltb (length out) (size T K) ∷ []

unfoldable pub fresh_number : ℕ → ℕ → List ℕ → ℕ
fresh_number T K out = first_of (fresh_refusals T K out)

-- "A saved state is written at the start of its buffer, and bytes after it stay." "Every refusal leaves .. all lent bytes unchanged"
unfoldable pub fresh_bytes : ℕ → ℕ → List ℕ → List ℕ
fresh_bytes T K out = cond (eqb (fresh_number T K out) done) (over (bytes_of (fresh_state T K)) out) out

-- ---- sedge_check

-- 1, "the saved state breaks a rule above", or 0
abbrev pub check_number : List ℕ → ℕ
check_number b = (read b).number

-- ---- sedge_step: "One event executes one line of one thread", of the state that is lent; a byte names the thread, and another the node

abbrev pub step_number : List ℕ → ℕ → ℕ → ℕ
step_number b t n = lent_answer b (thread t) (node n)

abbrev pub step_bytes : List ℕ → ℕ → ℕ → List ℕ
step_bytes b t n = lent_bytes b (thread t) (node n)

-- ---- sedge_run: "A run takes a state, a schedule and an answer buffer with a byte for each event."

abbrev pub run_conditions : List ℕ → List ℕ → ℕ → List Condition
run_conditions b schedule room =
    -- 1 | the saved state breaks a rule above
    bad_state given-when (¬ SavedFile b)
    -- 2 | the schedule breaks a rule above
    ∷ bad_schedule given-when (¬ GoodSchedule schedule)
    -- 3 | schedule and state differ in T or K
    ∷ bad_size given-when (((held_in b).shared.threads ≢ (heading_of schedule).threads) ⊎ ((held_in b).shared.nodes ≢ (heading_of schedule).nodes))
    -- 4 | a lent output is too short: it has not "a byte for each event"
    ∷ too_short given-when (room < events_in schedule)
    ∷ []

-- the run from the state that the bytes hold
abbrev pub run_of : List ℕ → List ℕ → List ℕ → Ran
run_of b schedule answers = run (held_in b) schedule answers

-- "reports events executed (answer 0), events waited (answer 12) and the stopping number, or 0"
abbrev pub run_report : List ℕ → List ℕ → List ℕ → Report
run_report b schedule answers = (run_of b schedule answers).report

-- the stopping number, which is the number that the call gives
abbrev pub run_number : List ℕ → List ℕ → List ℕ → ℕ
run_number b schedule answers = (run_report b schedule answers).stop

-- where the unread part begins: "what follows the stopping event, nothing if none stopped it, the whole of it after refusals 1 to 4"
abbrev pub run_unread : List ℕ → List ℕ → List ℕ → ℕ
run_unread b schedule answers = unread_from schedule (run_report b schedule answers)

-- "Then each event's answer is stored at its place. .. Later answer bytes, and bytes past the last event, stay."
abbrev pub run_answers : List ℕ → List ℕ → List ℕ → List ℕ
run_answers b schedule answers = run_bytes (held_in b) schedule answers

-- 1 to 4, which "come before the first event and change nothing"
abbrev pub is_refusal : ℕ → Bool
is_refusal number = leb bad_state number && leb number too_short

-- "The run gives the state it ends in": its bytes stand where those of the first state stood
unfoldable pub run_saved : List ℕ → List ℕ → List ℕ → List ℕ
run_saved b schedule answers =
    cond (is_refusal (run_number b schedule answers)) b (bytes_of (run_of b schedule answers).state)

-- what the call promises: of the number that it returns, of each number that it stores, and of each byte that it was lent
pub record RunGives (b schedule answers : List ℕ) (r x w u : ℕ) (b' answers' : List ℕ) : Type 0 where
  pub number : r ≡ run_number b schedule answers
  pub executed : x ≡ (run_report b schedule answers).executed
  pub waited : w ≡ (run_report b schedule answers).waited
  pub unread : u ≡ run_unread b schedule answers
  pub saved : b' ≡ run_saved b schedule answers
  pub answered : answers' ≡ run_answers b schedule answers

-- ---- sedge_status, sedge_waiting, sedge_in_use, sedge_chain: "Questions about a state". "A refused question gives value 0 and no bytes"

abbrev pub ask_status : List ℕ → Asked
ask_status b = status (held_in b)

abbrev pub ask_waiting : List ℕ → Asked
ask_waiting b = waiting (held_in b)

abbrev pub ask_in_use : List ℕ → Asked
ask_in_use b = nodes_in_use (held_in b)

abbrev pub ask_chain : List ℕ → ℕ → List ℕ → Asked
ask_chain b from out = chain (held_in b) (node from) out

abbrev pub ask_chain_bytes : List ℕ → ℕ → List ℕ → List ℕ
ask_chain_bytes b from out = chain_bytes (held_in b) (node from) out

abbrev pub ask_chain_conditions : List ℕ → ℕ → ℕ → List Condition
ask_chain_conditions b from room =
    -- 1 | the saved state breaks a rule above
    bad_state given-when (¬ SavedFile b)
    -- 4 | a lent output is too short: "its output needs K bytes"; "in a chain question 4 comes before 6"
    ∷ too_short given-when (room < (held_in b).shared.nodes)
    -- 6 | a chain starts at a node not 1 to K
    ∷ wrong_node given-when (¬ Between 1 from (held_in b).shared.nodes)
    ∷ []
