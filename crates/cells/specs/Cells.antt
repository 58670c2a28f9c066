-- The numbers of a saved state, read and stored where they stand in its bytes. `Held b s` says that b are the bytes of s. A number that is read is that of
-- every state that the bytes hold (Shows), and a store turns the bytes of every state into those of the state with one variable changed (Leaves), so that
-- stores follow each other with no fact about ranges. What a cell asks for is plain arithmetic on the bytes' length and the T and K of their header.
-- Rests on saved states (crate `saved`). Assumes nothing.
use Rattle.std.specs.Prelude.{List, ◌≡◌, ℕ, ◌+◌, ◌-◌, ◌*◌, ◌^◌, ◌≤◌, ◌<◌, get_or, length}
use Rattle.lock.specs.declared.Shared.{Shared}
use Rattle.lock.specs.declared.State.{State}
use Rattle.number.specs.declared.NodeNo.{NodeNo}
use Rattle.number.specs.declared.ThreadNo.{ThreadNo}
use Rattle.saved.specs.Saved.{bytes_of, header_width, node_width, size, thread_width, threads_place}

-- ---- where things stand: T and K, as the header says them
abbrev pub threads_in : List ℕ → ℕ
threads_in b = get_or b 2 0

abbrev pub nodes_in : List ℕ → ℕ
nodes_in b = get_or b 3 0

-- where the record of a node, and that of a thread, begins
abbrev pub node_place : NodeNo → ℕ
node_place k = header_width + node_width * (k.0 - 1)

abbrev pub thread_place : List ℕ → ThreadNo → ℕ
thread_place b t = threads_place (nodes_in b) + thread_width * (t.0 - 1)

-- ---- what a cell asks for: the bytes are as many as the T and K of their header ask for
pub record Laid (b : List ℕ) : Type 0 where
  pub long : length b ≡ size (threads_in b) (nodes_in b)

-- and there is a node k, or a thread t
pub record HasNode (b : List ℕ) (k : NodeNo) : Type 0 where
  pub laid : Laid b
  pub from : 1 ≤ k.0
  pub to : k.0 ≤ nodes_in b

pub record HasThread (b : List ℕ) (t : ThreadNo) : Type 0 where
  pub laid : Laid b
  pub from : 1 ≤ t.0
  pub to : t.0 ≤ threads_in b

-- ---- what a cell gives

-- the numbers of four bytes are below 2 ^ 32
abbrev pub Fits : Shared → Type 0
Fits sh = (sh.low.0 < 2 ^ 32) × (sh.high.0 < 2 ^ 32) × (sh.entered < 2 ^ 32) × (sh.used < 2 ^ 32)

-- b are the bytes of s, whose tables have the nodes and the threads that it says it has
pub record Held (b : List ℕ) (s : State) : Type 0 where
  pub whole : b ≡ bytes_of s
  pub nodes : s.shared.nodes ≤ length s.node
  pub threads : s.shared.threads ≤ length s.thread
  pub fits : Fits s.shared

-- x is what f says of every state that b holds
abbrev pub Shows : {A : Type 0} → List ℕ → A → (State → A) → Type 0
Shows b x f = (s : State) → Held b s → x ≡ f s

-- b' has the T and K of b, and holds f s for every state s that b holds
pub record Leaves (b b' : List ℕ) (f : State → State) : Type 0 where
  pub threads : threads_in b' ≡ threads_in b
  pub nodes : nodes_in b' ≡ nodes_in b
  pub holds : (s : State) → Held b s → Held b' (f s)
