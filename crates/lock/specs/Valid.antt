-- Document 01, "Saved state": "A state that is not in bytes is held to the same ranges, with 0 in every place past T or K; otherwise it gives 1."
-- First the rule as facts, to be read; then the same rule as the test that the code makes. Judged.antt proves that the two agree.
-- Assumes nothing.
use Rattle.std.specs.Prelude.{Bool, true, ◌&&◌, List, [], ◌∷◌, ◌≡◌, ℕ, zero, suc, ◌≤◌, ◌<◌, ◌^◌, eqb, leb, length}
use Rattle.number.specs.Sizes.{first_line, last_line, last_place, most_entries, most_nodes, most_threads}
use Rattle.number.specs.Tests.{all_hold}
use Rattle.number.specs.declared.NodeNo.{NodeNo}
use Rattle.number.specs.declared.ThreadNo.{ThreadNo}
use Rattle.word.specs.Word.{none_from}
use Rattle.lock.specs.Fresh.{in_size}
use Rattle.lock.specs.State.{node_at, table_size, thread_at, zero_node, zero_thread}
use Rattle.lock.specs.declared.Node.{Node}
use Rattle.lock.specs.declared.Shared.{Shared}
use Rattle.lock.specs.declared.State.{State}
use Rattle.lock.specs.declared.Thread.{Thread}

-- ---- the rule

-- a number of a record lies in a range
pub record Between (least n most : ℕ) : Type 0 where
  pub from : least ≤ n
  pub to : n ≤ most

-- T and K are 1 to 32. Flag is 0 or 1. Tail and mess are 0 to K. Low and high are 1 to 1,000,001, entered at most 1,000,000.
-- Bits of the word from K up are 0: the word is below 2 ^ K.
pub record SharedRange (sh : Shared) : Type 0 where
  pub threads : Between 1 sh.threads most_threads
  pub nodes : Between 1 sh.nodes most_nodes
  pub flag : sh.flag ≤ 1
  pub tail : sh.tail.0 ≤ sh.nodes
  pub mess : sh.mess.0 ≤ sh.nodes
  pub low : Between 1 sh.low.0 last_place
  pub high : Between 1 sh.high.0 last_place
  pub entered : sh.entered ≤ most_entries
  pub used : sh.used < 2 ^ sh.nodes

-- Next is 0 to K. Locked is 0 or 1.
pub record NodeRange (nodes : ℕ) (v : Node) : Type 0 where
  pub next : v.next.0 ≤ nodes
  pub locked : v.locked ≤ 1

-- Lines are 11 to 29. My, prev, succ and nxmy are 0 to K, slot is at most 1,000,000.
pub record ThreadRange (nodes : ℕ) (v : Thread) : Type 0 where
  pub line : Between first_line v.line last_line
  pub my : v.my.0 ≤ nodes
  pub prev : v.prev.0 ≤ nodes
  pub succ : v.succ.0 ≤ nodes
  pub nxmy : v.nxmy.0 ≤ nodes
  pub slot : v.slot.0 ≤ most_entries

-- The tables have room for 32 each. (In code their type says so.)
pub record Sized (s : State) : Type 0 where
  pub nodes : length s.node ≡ table_size
  pub threads : length s.thread ≡ table_size

-- The second state has the T and K of the first.
pub record SameSize (s s' : State) : Type 0 where
  pub threads : s'.shared.threads ≡ s.shared.threads
  pub nodes : s'.shared.nodes ≡ s.shared.nodes

-- A state in the ranges, with 0 in every place past T or K.
pub record Valid (s : State) : Type 0 where
  pub shared : SharedRange s.shared
  pub node : (k : NodeNo) → 1 ≤ k.0 → k.0 ≤ s.shared.nodes → NodeRange s.shared.nodes (node_at s k)
  pub thread : (t : ThreadNo) → 1 ≤ t.0 → t.0 ≤ s.shared.threads → ThreadRange s.shared.nodes (thread_at s t)
  pub past_nodes : (k : NodeNo) → s.shared.nodes < k.0 → node_at s k ≡ zero_node
  pub past_threads : (t : ThreadNo) → s.shared.threads < t.0 → thread_at s t ≡ zero_thread
  pub sized : Sized s

-- ---- the test

abbrev pub shared_tests : Shared → List Bool
shared_tests sh =
    in_size sh.threads sh.nodes
    ∷ leb sh.flag 1
    ∷ leb sh.tail.0 sh.nodes
    ∷ leb sh.mess.0 sh.nodes
    ∷ leb 1 sh.low.0
    ∷ leb sh.low.0 last_place
    ∷ leb 1 sh.high.0
    ∷ leb sh.high.0 last_place
    ∷ leb sh.entered most_entries
    ∷ none_from sh.used sh.nodes
    ∷ []

unfoldable pub shared_valid : Shared → Bool
shared_valid sh = all_hold (shared_tests sh)

abbrev pub node_tests : ℕ → Node → List Bool
node_tests nodes v = leb v.next.0 nodes ∷ leb v.locked 1 ∷ []

abbrev pub node_in_range : ℕ → Node → Bool
node_in_range nodes v = all_hold (node_tests nodes v)

abbrev pub node_zeros : Node → List Bool
node_zeros v = eqb v.next.0 0 ∷ eqb v.locked 0 ∷ []

abbrev pub node_is_zero : Node → Bool
node_is_zero v = all_hold (node_zeros v)

abbrev pub thread_tests : ℕ → Thread → List Bool
thread_tests nodes v =
    leb first_line v.line
    ∷ leb v.line last_line
    ∷ leb v.my.0 nodes
    ∷ leb v.prev.0 nodes
    ∷ leb v.succ.0 nodes
    ∷ leb v.nxmy.0 nodes
    ∷ leb v.slot.0 most_entries
    ∷ []

abbrev pub thread_in_range : ℕ → Thread → Bool
thread_in_range nodes v = all_hold (thread_tests nodes v)

abbrev pub thread_zeros : Thread → List Bool
thread_zeros v =
    eqb v.line 0
    ∷ eqb v.my.0 0
    ∷ eqb v.prev.0 0
    ∷ eqb v.succ.0 0
    ∷ eqb v.nxmy.0 0
    ∷ eqb v.slot.0 0
    ∷ []

abbrev pub thread_is_zero : Thread → Bool
thread_is_zero v = all_hold (thread_zeros v)

-- `within` holds of the first n elements, and `past` of the others
abbrev pub up_to : {A : Type 0} → (A → Bool) → (A → Bool) → ℕ → List A → Bool
up_to within past n [] = true
up_to within past zero (x ∷ xs) = past x && up_to within past zero xs
up_to within past (suc n) (x ∷ xs) = within x && up_to within past n xs

unfoldable pub nodes_valid : ℕ → List Node → Bool
nodes_valid nodes xs = up_to (node_in_range nodes) node_is_zero nodes xs

unfoldable pub threads_valid : ℕ → ℕ → List Thread → Bool
threads_valid nodes threads xs = up_to (thread_in_range nodes) thread_is_zero threads xs

unfoldable pub valid : State → Bool
valid s =
    shared_valid s.shared
    && nodes_valid s.shared.nodes s.node
    && threads_valid s.shared.nodes s.shared.threads s.thread
