-- Document 01, "Refusal numbers", for a run: 1 to 4, each condition in the document's own words. `refused_exactly` of Theorems.antt says that a run is
-- refused by the first that applies, and `accepted_exactly` what a run has to meet for none to apply. Assumes nothing.
use Rattle.std.specs.Prelude.{List, [], ◌∷◌, ◌≢◌, ◌⊎◌, ◌≡◌, ℕ, ◌≤◌, ◌<◌}
use Rattle.lock.specs.Valid.{Valid}
use Rattle.lock.specs.declared.State.{State}
pub use Rattle.number.specs.First.{Condition, First, NoneApply, ◌given-when◌}
use Rattle.number.specs.Refused.{bad_schedule, bad_size, bad_state, too_short}
use Rattle.schedule.specs.Schedule.{GoodSchedule, events_in, heading_of}

-- of a run from state s, over schedule b, with so many bytes for its answers
abbrev pub conditions : State → List ℕ → ℕ → List Condition
conditions s b room =
    -- 1 | the saved state breaks a rule above
    bad_state given-when (¬ Valid s)
    -- 2 | the schedule breaks a rule above
    ∷ bad_schedule given-when (¬ GoodSchedule b)
    -- 3 | schedule and state differ in T or K
    ∷ bad_size given-when ((s.shared.threads ≢ (heading_of b).threads) ⊎ (s.shared.nodes ≢ (heading_of b).nodes))
    -- 4 | a lent output is too short: it has not "a byte for each event"
    ∷ too_short given-when (room < events_in b)
    ∷ []

-- Nothing refuses the run: the state and the schedule obey their rules, have the same T and K, and there is a byte for each event.
pub record Accepted (s : State) (b : List ℕ) (room : ℕ) : Type 0 where
  pub state : Valid s
  pub schedule : GoodSchedule b
  pub threads : s.shared.threads ≡ (heading_of b).threads
  pub nodes : s.shared.nodes ≡ (heading_of b).nodes
  pub answers : events_in b ≤ room
