-- Document 01, "Refusal numbers", for a step: 1 and 5 to 12, each condition in the document's own words and by its own line numbers (and not by the
-- table of lines), over the whole state. `exactly_when` of Theorems.antt says that a step's answer is the first that applies. Assumes nothing.
use Rattle.std.specs.Prelude.{Bool, false, true, ◌||◌, List, [], ◌∷◌, ◌≢◌, ◌⊎◌, ◌≡◌, ℕ, T, eqb}
use Rattle.figure.specs.Figure.{entered, flag, high, line, local, locked, low, my, next}
use Rattle.lock.specs.State.{thread_at}
use Rattle.lock.specs.Valid.{Between, Valid}
use Rattle.lock.specs.declared.State.{State}
use Rattle.lock.specs.declared.Thread.{Thread}
pub use Rattle.number.specs.First.{Condition, First, NoneApply, ◌given-when◌}
use Rattle.number.specs.Refused.{bad_state, followed_empty, followed_unused, must_wait, no_entry_left, no_place_left, no_such_thread, node_taken, wrong_node}
use Rattle.number.specs.Sizes.{last_place, most_entries}
use Rattle.number.specs.declared.NodeNo.{NodeNo}
use Rattle.number.specs.declared.ThreadNo.{ThreadNo}
use Rattle.word.specs.Word.{in_use}

-- ---- followed nodes and waits

-- the number is one of the list
abbrev pub among : ℕ → List ℕ → Bool
among k [] = false
among k (j ∷ js) = eqb k j || among k js

-- "my at 12, 13, 19, 20, 23, 24 and 26"
abbrev pub follow_my : List ℕ
follow_my = 12 ∷ 13 ∷ 19 ∷ 20 ∷ 23 ∷ 24 ∷ 26 ∷ []

-- "Followed nodes: my at 12, 13, 19, 20, 23, 24 and 26; prev at 18; succ at 29 where it is not 0."
pub data Follows (v : Thread) (k : NodeNo) : Type 0 where
  my_at : T (among v.line follow_my) → k ≡ v.my → Follows v k
  prev_at : v.line ≡ 18 → k ≡ v.prev → Follows v k
  succ_at : v.line ≡ 29 → v.succ.0 ≢ 0 → k ≡ v.succ → Follows v k

-- 16 "waits until flag is 1", 19 "waits until locked(my) is 0", 23 "waits until next(my) is not 0", and it is not so
pub data Waits (s : State) (t : ThreadNo) : Type 0 where
  at16 : line s t ≡ 16 → flag s ≢ 1 → Waits s t
  at19 : line s t ≡ 19 → locked s (my s t) ≢ 0 → Waits s t
  at23 : line s t ≡ 23 → (next s (my s t)).0 ≡ 0 → Waits s t

-- ---- the conditions

-- of an event in a state that was judged before
abbrev pub event_conditions : State → ThreadNo → NodeNo → List Condition
event_conditions s t n =
    -- 5 | the event's thread is not 1 to T
    no_such_thread given-when (¬ Between 1 t.0 s.shared.threads)
    -- 6 | at line 11 the node is not 1 to K; elsewhere it is not 0
    ∷ wrong_node given-when (((line s t ≡ 11) × (¬ Between 1 n.0 s.shared.nodes)) ⊎ ((line s t ≢ 11) × (n.0 ≢ 0)))
    -- 7 | line 11 with entered = 1,000,000
    ∷ no_entry_left given-when ((line s t ≡ 11) × (entered s ≡ most_entries))
    -- 8 | line 11 with a node in use
    ∷ node_taken given-when ((line s t ≡ 11) × (in_use (local s) n ≡ true))
    -- 9 | a followed node is 0
    ∷ followed_empty given-when ((k : NodeNo) × Follows (thread_at s t) k × (k.0 ≡ 0))
    -- 10 | a followed node is not in use
    ∷ followed_unused given-when ((k : NodeNo) × Follows (thread_at s t) k × (in_use (local s) k ≡ false))
    -- 11 | line 14 with high, or line 29 with low, at 1,000,001
    ∷ no_place_left given-when (((line s t ≡ 14) × ((high s).0 ≡ last_place)) ⊎ ((line s t ≡ 29) × ((low s).0 ≡ last_place)))
    -- 12 | the line waits and its condition does not hold
    ∷ must_wait given-when Waits s t
    ∷ []

-- of a step
abbrev pub conditions : State → ThreadNo → NodeNo → List Condition
conditions s t n =
    -- 1 | the saved state breaks a rule above
    bad_state given-when (¬ Valid s)
    ∷ event_conditions s t n
