-- The refusal numbers, in the order of document 01's table, each with the table's own words; and how the first that applies is given.
-- Assumes nothing.
use Rattle.std.specs.Prelude.{Bool, cond, List, [], ◌∷◌, ℕ}

infix 68 ◌if◌
-- "Success is 0."
abbrev pub done : ℕ
done = 0

-- "the saved state breaks a rule above"
abbrev pub bad_state : ℕ
bad_state = 1

-- "the schedule breaks a rule above"
abbrev pub bad_schedule : ℕ
bad_schedule = 2

-- "a fresh state is asked with T or K outside 1 to 32, or schedule and state differ in T or K"
abbrev pub bad_size : ℕ
bad_size = 3

-- "a lent output is too short"
abbrev pub too_short : ℕ
too_short = 4

-- "the event's thread is not 1 to T"
abbrev pub no_such_thread : ℕ
no_such_thread = 5

-- "at line 11 the node is not 1 to K; elsewhere it is not 0; or a chain starts at a node not 1 to K"
abbrev pub wrong_node : ℕ
wrong_node = 6

-- "line 11 with entered = 1,000,000"
abbrev pub no_entry_left : ℕ
no_entry_left = 7

-- "line 11 with a node in use"
abbrev pub node_taken : ℕ
node_taken = 8

-- "a followed node is 0"
abbrev pub followed_empty : ℕ
followed_empty = 9

-- "a followed node is not in use"
abbrev pub followed_unused : ℕ
followed_unused = 10

-- "line 14 with high, or line 29 with low, at 1,000,001"
abbrev pub no_place_left : ℕ
no_place_left = 11

-- "the line waits and its condition does not hold"
abbrev pub must_wait : ℕ
must_wait = 12

-- ---- the order

-- a number, and the test that says whether it applies
pub record Refusal : Type 0 where
  pub number : ℕ
  pub applies : Bool

abbrev pub ◌if◌ : ℕ → Bool → Refusal
number if test = record { number = number; applies = test }

-- "The first that applies, in this order, is given"; "Success is 0."
abbrev pub first_of : List Refusal → ℕ
first_of [] = done
first_of (r ∷ rs) = cond r.applies r.number (first_of rs)
