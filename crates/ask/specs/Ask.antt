-- Document 01, "Questions about a state", and the nodes in use of "The state". The definitions that the contracts of the calls cite: what each call
-- gives, for every input. Meaning.antt has the document's sentences as facts, and Theorems.antt says that the two agree. Assumes nothing.
use Rattle.std.specs.Prelude.{Bool, cond, false, not, true, ◌&&◌, ◌||◌, List, [], ◌∷◌, ℕ, zero, suc, ◌+◌, eqb, leb, ltb, length}
use Rattle.std.proofs.Common.{Err, Ok, Result}
use Rattle.lines.specs.Lines.{line_at}
use Rattle.lines.specs.declared.Wait.{Wait}
use Rattle.lines.specs.declared.Wait.TheVariants.{ForFlag, ForLink, ForUnlock, NoWait}
use Rattle.lock.specs.State.{node_at, thread_at}
use Rattle.lock.specs.Valid.{valid}
use Rattle.lock.specs.declared.State.{State}
use Rattle.lock.specs.declared.Thread.{Thread}
use Rattle.number.specs.Answer.{number_of}
use Rattle.number.specs.Numbers.{is_bottom, thread}
use Rattle.number.specs.Refused.{Refusal, ◌if◌, bad_state, done, first_of, too_short, wrong_node}
use Rattle.number.specs.declared.NodeNo.{NodeNo}
use Rattle.number.specs.declared.Refusal.{Refusal as Refused}
use Rattle.rows.specs.Rows.{over}
use Rattle.word.specs.Word.{how_many}
use Rattle.ask.specs.Asked.{Asked}
use Rattle.ask.specs.declared.LockStatus.{LockStatus}
use Rattle.ask.specs.declared.LockStatus.TheVariants.{Free, Held, Passing}

-- ---- what a question gives

-- "Success is 0."
abbrev pub answered : ℕ → Asked
answered value = record { number = done; value = value }

-- "A refused question gives value 0 and no bytes"
abbrev pub refused : ℕ → Asked
refused number = record { number = number; value = 0 }

-- 1, "the saved state breaks a rule above", before all else
abbrev pub judged : State → ℕ → Asked
judged s value = cond (valid s) (answered value) (refused bad_state)

-- ---- how many threads

-- how many of the threads 1 to t pass a test
unfoldable pub how_many_threads_to : ℕ → (Thread → Bool) → State → ℕ
how_many_threads_to zero test s = 0
how_many_threads_to (suc t) test s = how_many_threads_to t test s + cond (test (thread_at s (thread (suc t)))) 1 0

-- how many of the threads 1 to T do
abbrev pub how_many_threads : (Thread → Bool) → State → ℕ
how_many_threads test s = how_many_threads_to s.shared.threads test s

-- "at 20 to 29"
abbrev pub is_holding : Thread → Bool
is_holding v = leb 20 v.line && leb v.line 29

-- the waits that the question counts: for the flag (line 16) and for the unlock (line 19), and not for the link (line 23)
abbrev pub is_counted : Wait → Bool
is_counted NoWait = false
is_counted ForFlag = true
is_counted ForUnlock = true
is_counted ForLink = false

-- "the number of threads at line 16 or 19": the lines whose wait, by the table, is counted
abbrev pub is_waiting : Thread → Bool
is_waiting v = is_counted (line_at v.line).wait

-- ---- status

-- "1 free", "2 held", "3 passing"
abbrev pub free : ℕ
free = 1

abbrev pub held : ℕ
held = 2

abbrev pub passing : ℕ
passing = 3

-- the number of each
abbrev pub number_of_status : LockStatus → ℕ
number_of_status Free = free
number_of_status Held = held
number_of_status Passing = passing

-- what a status question gives, by each case of its answer
abbrev pub asked_status : Result LockStatus Refused → Asked
asked_status (Ok found) = answered (number_of_status found)
asked_status (Err r) = refused (number_of r)

-- "tail is 0 and flag is 1"
abbrev pub is_free : State → Bool
is_free s = is_bottom s.shared.tail && eqb s.shared.flag 1

-- "some thread is at 20 to 29"
abbrev pub is_held : State → Bool
is_held s = not (eqb (how_many_threads is_holding s) 0)

-- "Status: 1 free, if tail is 0 and flag is 1; else 2 held, if some thread is at 20 to 29; else 3 passing."
unfoldable pub status_of : State → ℕ
status_of s = cond (is_free s) free (cond (is_held s) held passing)

unfoldable pub status : State → Asked
status s = judged s (status_of s)

-- ---- waiting

-- "Waiting: the number of threads at line 16 or 19."
unfoldable pub waiting : State → Asked
waiting s = judged s (how_many_threads is_waiting s)

-- ---- nodes in use

-- "how many are in use can be asked, and is the number of ones"
unfoldable pub nodes_in_use : State → Asked
nodes_in_use s = judged s (how_many s.shared.used)

-- ---- chain

-- the node that a node is linked to
abbrev pub next : State → NodeNo → NodeNo
next s k = (node_at s k).next

-- "a node, its next, and so on, found link by link, ending before 0 or after .. nodes": at most `left` nodes
unfoldable pub chain_from : ℕ → State → NodeNo → List ℕ
chain_from zero s k = []
chain_from (suc left) s k = cond (is_bottom k) [] (k.0 ∷ chain_from left s (next s k))

-- the number is not 1 to K
abbrev pub is_outside : ℕ → NodeNo → Bool
is_outside nodes k = is_bottom k || ltb nodes k.0

-- 1 before all else; 4, "its output needs K bytes"; 6, "a chain starts at a node not 1 to K"; "in a chain question 4 comes before 6"
abbrev pub chain_refusals : State → NodeNo → ℕ → List Refusal
chain_refusals s from room =
    bad_state if not (valid s)
    ∷ too_short if ltb room s.shared.nodes
    ∷ wrong_node if is_outside s.shared.nodes from
    ∷ []

-- the number that a chain question gives; `room` is how many bytes its output has
unfoldable pub chain_number : State → NodeNo → ℕ → ℕ
chain_number s from room = first_of (chain_refusals s from room)

-- the list that a chain question gives: at most K nodes, and none at all where it is refused
unfoldable pub chain_list : State → NodeNo → ℕ → List ℕ
chain_list s from room = cond (eqb (chain_number s from room) done) (chain_from s.shared.nodes s from) []

-- "It gives the list's length"
unfoldable pub chain : State → NodeNo → List ℕ → Asked
chain s from out = record { number = chain_number s from (length out); value = length (chain_list s from (length out)) }

-- the list at the start of the output; the bytes "after the list stay"
unfoldable pub chain_bytes : State → NodeNo → List ℕ → List ℕ
chain_bytes s from out = over (chain_list s from (length out)) out
