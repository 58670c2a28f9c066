-- Document 01, "Questions about a state", as facts about a state: what the values of status, waiting and chain mean, by the document's own line numbers
-- and links, and when each number is given. Theorems.antt says that the definitions of Ask give exactly this. Assumes nothing.
use Rattle.std.specs.Prelude.{Bool, ◌||◌, List, [], ◌∷◌, ◌≢◌, ◌↔◌, ◌⊎◌, ◌≡◌, ℕ, suc, ◌-◌, ◌≤◌, ◌<◌, eqb, get_or, length}
use Rattle.lock.specs.State.{thread_at}
use Rattle.lock.specs.Valid.{Between, Valid}
use Rattle.lock.specs.declared.State.{State}
use Rattle.lock.specs.declared.Thread.{Thread}
use Rattle.number.specs.Numbers.{node}
pub use Rattle.number.specs.First.{Condition, First, NoneApply, ◌given-when◌}
use Rattle.number.specs.Refused.{bad_state, too_short, wrong_node}
use Rattle.number.specs.declared.NodeNo.{NodeNo}
use Rattle.number.specs.declared.ThreadNo.{ThreadNo}
use Rattle.ask.specs.Ask.{free, held, next, passing}

-- ---- status

-- "tail is 0 and flag is 1"
abbrev pub Free : State → Type 0
Free s = (s.shared.tail.0 ≡ 0) × (s.shared.flag ≡ 1)

-- "some thread is at 20 to 29"
abbrev pub Held : State → Type 0
Held s = (t : ThreadNo) × Between 1 t.0 s.shared.threads × Between 20 (thread_at s t).line 29

-- "Status: 1 free, if tail is 0 and flag is 1; else 2 held, if some thread is at 20 to 29; else 3 passing."
pub record StatusIs (s : State) (value : ℕ) : Type 0 where
  pub is_free_lem : (value ≡ free) ↔ Free s
  pub is_held_lem : (value ≡ held) ↔ ((¬ Free s) × Held s)
  pub is_passing : (value ≡ passing) ↔ ((¬ Free s) × (¬ Held s))

-- ---- waiting

-- "at line 16 or 19"
abbrev pub is16or19 : ℕ → Bool
is16or19 line = eqb line 16 || eqb line 19

abbrev pub at16or19 : Thread → Bool
at16or19 v = is16or19 v.line

-- ---- chain

-- 1, 4 and 6, in this order, of a chain question that starts at `from` and is lent `room` bytes
abbrev pub chain_conditions : State → NodeNo → ℕ → List Condition
chain_conditions s from room =
    -- 1 | the saved state breaks a rule above
    bad_state given-when (¬ Valid s)
    -- 4 | a lent output is too short: "its output needs K bytes"; "in a chain question 4 comes before 6"
    ∷ too_short given-when (room < s.shared.nodes)
    -- 6 | a chain starts at a node not 1 to K
    ∷ wrong_node given-when (¬ Between 1 from.0 s.shared.nodes)
    ∷ []

-- "Chain: a node, its next, and so on, found link by link, ending before 0 or after K nodes."
pub record ChainOf (s : State) (from : NodeNo) (list : List ℕ) : Type 0 where
  -- "a node": it begins with `from`
  pub begins : (rest : List ℕ) × (list ≡ from.0 ∷ rest)
  -- "its next, and so on": each further number is the next of the one before it
  pub links : (i : ℕ) → suc i < length list → get_or list (suc i) 0 ≡ (next s (node (get_or list i 0))).0
  -- it holds no 0
  pub no_bottom : (i : ℕ) → i < length list → get_or list i 0 ≢ 0
  -- it has at most K numbers
  pub at_most : length list ≤ s.shared.nodes
  -- "ending before 0 or after K nodes": the next of the last number is 0, or there are K numbers
  pub ends : ((next s (node (get_or list (length list - 1) 0))).0 ≡ 0) ⊎ (length list ≡ s.shared.nodes)
