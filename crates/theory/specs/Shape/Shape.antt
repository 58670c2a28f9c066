-- The shape of the queue: what holds of memory and threads after every sequence of events from a fresh lock. docs/INVARIANT.md explains it, clause by clause
-- and with a picture. A thread at 15 or 21, which only looks, is seen at the line it goes on to; so the queue is the threads at 16 to 29, and the lines of
-- it that differ are few: 16 and 17 (it found the tail empty), 18 and 19 (it found the node of the thread before it), and 20 to 29 (inside: it has the
-- lock; the section is 27).
-- Lines.antt proves that each line keeps the shape, Start.antt that a fresh lock has it, Goes.antt what follows. Assumes nothing.
use Rattle.std.specs.Prelude.{List, ◌≢◌, ◌≡◌, ℕ, ◌+◌, ◌≤◌, ◌<◌}
use Rattle.number.specs.declared.ThreadNo.{ThreadNo}
use Rattle.theory.specs.Queue.AtLines.{At, In}
use Rattle.theory.specs.Queue.Links.{Links}
use Rattle.theory.specs.Queue.Nodes.{Nodes}
use Rattle.theory.specs.Queue.Order.{Order}
use Rattle.theory.specs.Queue.Places.{Places}
use Rattle.theory.specs.Queue.Seen.{Seen}
use Rattle.theory.specs.Queue.Memory.{Memory}

-- ---- one thread

-- what its own variables say
pub record Private (v : Seen) : Type 0 where
  pub line_range : v.line ≤ 29
  -- succ is the successor that the thread has seen: behind 20 until it is sent away, and again when mess has given it back
  pub copied : At 22 26 v.line (v.succ ≡ v.nxmy)
  pub returned : At 29 29 v.line (v.succ ≡ v.nxmy)
  -- at 22 to 24 it has seen none yet
  pub none_seen : At 22 24 v.line (v.nxmy ≡ 0)

-- of a thread that waits at 19 for its unlocking: it is unlocked exactly at the front, and there the flag is down. (`locked + low ≤ slot`: at the front
-- locked is 0; `flag + low ≤ slot`: there the flag is 0.)
pub record Spinning (locked slot low flag : ℕ) : Type 0 where
  pub unlocked : locked ≡ 0 → slot ≡ low
  pub front_unlocked : locked + low ≤ slot
  pub flag_down : flag + low ≤ slot

-- whose turn it is. (`low < slot + flag` says that at the front the flag is up, `low < slot` that the thread is not at the front.)
pub record Turn (line slot locked low flag : ℕ) : Type 0 where
  pub still_locked : At 14 18 line (locked ≡ 1)
  pub for_flag : At 16 16 line (low < slot + flag)
  pub flag_found : At 17 17 line ((slot ≡ low) × (flag ≡ 1))
  pub behind : At 18 18 line (low < slot)
  pub spinning : At 19 19 line (Spinning locked slot low flag)
  pub inside : At 20 29 line ((slot ≡ low) × (flag ≡ 0))

-- all that is said of one thread: before its exchange next of its node is empty, and mess holds what the thread inside has sent itself
abbrev pub Own : Memory → Seen → Type 0
Own m v = record {
  private : Private v;
  cleared : At 13 14 v.line (m.next v.my ≡ 0);
  turn : Turn v.line v.slot (m.locked v.my) m.low m.flag;
  mess : At 26 28 v.line (m.mess ≡ v.nxmy);
}

-- ---- a thread v, the thread w before it, and next of w's node

-- v has still to tell w (line 18): w's next is empty, and w will wait for it
pub record Unlinked (v w : Seen) (next : ℕ) : Type 0 where
  pub prev : v.prev ≡ w.my
  pub up_to_23 : In 16 23 w.line
  pub unset : next ≡ 0

-- v has told w (line 19): while w owns its node, next is v's node, and what w has seen from 25 on is v's node
pub record Linked (v w : Seen) (next : ℕ) : Type 0 where
  pub set : At 16 26 w.line (next ≡ v.my)
  pub seen : At 25 29 w.line (w.nxmy ≡ v.my)

-- v found the tail empty (line 16): w had closed it behind itself, and has no successor to unlock
pub record ClosedBehind (w : Seen) : Type 0 where
  pub closed : In 25 29 w.line
  pub none_seen : w.nxmy ≡ 0

-- all that is said of the two, by v's line
pub record Link (v w : Seen) (next : ℕ) : Type 0 where
  pub unlinked : At 18 18 v.line (Unlinked v w next)
  pub linked : At 19 19 v.line (Linked v w next)
  pub apart : At 16 16 v.line (ClosedBehind w)

-- ---- the last thread v, the tail, and next of v's node

-- the tail is v's node
pub record Open (v : Seen) (tail next : ℕ) : Type 0 where
  pub mine : tail ≡ v.my
  pub up_to_22 : In 16 22 v.line
  pub unset : next ≡ 0

-- a tail that is not 0 is the last one's node; where it is 0, the last has closed it
pub record Last (v : Seen) (tail next : ℕ) : Type 0 where
  pub opened : tail ≢ 0 → Open v tail next
  pub closed : tail ≡ 0 → ClosedBehind v

-- ---- the shared numbers; where nobody is in the queue, the flag is up (`low < high + flag`) and the tail 0
pub record SharedShape (flag low high tail : ℕ) (locked : ℕ → ℕ) : Type 0 where
  pub flag_range : flag ≤ 1
  pub flag_empty : low < high + flag
  pub tail_empty : low ≡ high → tail ≡ 0
  pub locked_range : (k : ℕ) → locked k ≤ 1

-- ---- the shape
pub record Shape (m : Memory) (th : ℕ → Seen) : Type 0 where
  pub shared : SharedShape m.flag m.low m.high m.tail m.locked
  -- the threads in the queue have the places from low to high - 1, and those that have chosen a node and not yet given it up own the nodes in use
  pub places : Places 16 29 th m.taker m.low m.high
  pub nodes : Nodes 12 26 th m.used m.owner
  pub own : (q : ℕ) → Own m (th q)
  pub links : Links 16 29 Link Last th m.next m.tail m.high

-- the order of exchanges and passages: 27 is the section
abbrev pub Ordered : (ℕ → Seen) → (ℕ → ℕ) → ℕ → ℕ → List ThreadNo → List ThreadNo → Type 0
Ordered th taker low high exchanged passed = Order 16 27 29 th taker low high exchanged passed
