-- Document 01, "The state": "Shared: flag, tail, mess, low, high, entered, and the set `local` without ⊥. Mess is one number for all threads, as in
-- the figure. The nodes in use are one 32-bit word, bit k-1 for node k .. Each node has next and locked. Each thread has its line, my, prev, succ,
-- nxmy and slot." These parts are the structs of src/lib.rt, which the prover reads as the records Shared (with T as `threads`, K as `nodes` and the
-- word as `used`), Node, Thread and State. Here: zeros, what stands at a number, and the state with one part changed. "Nothing else changes in a
-- step" is said here, once: each change names one number and keeps all the others. Laws.antt has the laws by which proofs use it. Assumes nothing.
use Rattle.std.specs.Prelude.{List, ℕ, zero, suc, get_or, replicate, set}
use Rattle.number.specs.Numbers.{bottom, place}
use Rattle.number.specs.Sizes.{most_nodes}
use Rattle.number.specs.declared.NodeNo.{NodeNo}
use Rattle.number.specs.declared.Place.{Place}
use Rattle.number.specs.declared.ThreadNo.{ThreadNo}
use Rattle.lock.specs.declared.Node.{Node}
use Rattle.lock.specs.declared.Shared.{Shared}
use Rattle.lock.specs.declared.State.{State}
use Rattle.lock.specs.declared.Thread.{Thread}

infixl 60 ◌⟨flag≔◌⟩
infixl 60 ◌⟨tail≔◌⟩
infixl 60 ◌⟨mess≔◌⟩
infixl 60 ◌⟨low≔◌⟩
infixl 60 ◌⟨high≔◌⟩
infixl 60 ◌⟨entered≔◌⟩
infixl 60 ◌⟨used≔◌⟩
infixl 60 ◌⟨line≔◌⟩
infixl 60 ◌⟨my≔◌⟩
infixl 60 ◌⟨prev≔◌⟩
infixl 60 ◌⟨succ≔◌⟩
infixl 60 ◌⟨nxmy≔◌⟩
infixl 60 ◌⟨slot≔◌⟩
infixl 60 ◌⟨next≔◌⟩
infixl 60 ◌⟨locked≔◌⟩
infixl 60 ◌⟨shared≔◌⟩
infixl 60 ◌⟨node◌≔◌⟩
infixl 60 ◌⟨thread◌≔◌⟩
-- ---- 0 everywhere
abbrev pub zero_node : Node
zero_node = record { next = bottom; locked = 0 }

abbrev pub zero_thread : Thread
zero_thread = record { line = 0; my = bottom; prev = bottom; succ = bottom; nxmy = bottom; slot = place 0 }

abbrev pub zero_shared : Shared
zero_shared = record { threads = 0; nodes = 0; flag = 0; tail = bottom; mess = bottom; low = place 0; high = place 0; entered = 0; used = 0 }

-- both tables of a state have room for 32, the most threads and the most nodes
abbrev pub table_size : ℕ
table_size = most_nodes

abbrev pub zero_state : State
zero_state = record { shared = zero_shared; node = replicate table_size zero_node; thread = replicate table_size zero_thread }

-- ---- what stands at a number. Threads and nodes are numbered from 1; at 0 and past the table stand zeros, and nothing is stored.
abbrev pub nth : {A : Type 0} → List A → ℕ → A → A
nth xs zero d = d
nth xs (suc k) d = get_or xs k d

abbrev pub set_nth : {A : Type 0} → List A → ℕ → A → List A
set_nth xs zero v = xs
set_nth xs (suc k) v = set xs k v

abbrev pub thread_at : State → ThreadNo → Thread
thread_at s t = nth s.thread t.0 zero_thread

abbrev pub node_at : State → NodeNo → Node
node_at s k = nth s.node k.0 zero_node

-- ---- one of the shared numbers changed
abbrev pub ◌⟨flag≔◌⟩ : Shared → ℕ → Shared
sh ⟨flag≔ x ⟩ = record { threads = sh.threads; nodes = sh.nodes; flag = x; tail = sh.tail; mess = sh.mess; low = sh.low; high = sh.high; entered = sh.entered; used = sh.used }

abbrev pub ◌⟨tail≔◌⟩ : Shared → NodeNo → Shared
sh ⟨tail≔ x ⟩ = record { threads = sh.threads; nodes = sh.nodes; flag = sh.flag; tail = x; mess = sh.mess; low = sh.low; high = sh.high; entered = sh.entered; used = sh.used }

abbrev pub ◌⟨mess≔◌⟩ : Shared → NodeNo → Shared
sh ⟨mess≔ x ⟩ = record { threads = sh.threads; nodes = sh.nodes; flag = sh.flag; tail = sh.tail; mess = x; low = sh.low; high = sh.high; entered = sh.entered; used = sh.used }

abbrev pub ◌⟨low≔◌⟩ : Shared → Place → Shared
sh ⟨low≔ x ⟩ = record { threads = sh.threads; nodes = sh.nodes; flag = sh.flag; tail = sh.tail; mess = sh.mess; low = x; high = sh.high; entered = sh.entered; used = sh.used }

abbrev pub ◌⟨high≔◌⟩ : Shared → Place → Shared
sh ⟨high≔ x ⟩ = record { threads = sh.threads; nodes = sh.nodes; flag = sh.flag; tail = sh.tail; mess = sh.mess; low = sh.low; high = x; entered = sh.entered; used = sh.used }

abbrev pub ◌⟨entered≔◌⟩ : Shared → ℕ → Shared
sh ⟨entered≔ x ⟩ = record { threads = sh.threads; nodes = sh.nodes; flag = sh.flag; tail = sh.tail; mess = sh.mess; low = sh.low; high = sh.high; entered = x; used = sh.used }

abbrev pub ◌⟨used≔◌⟩ : Shared → ℕ → Shared
sh ⟨used≔ x ⟩ = record { threads = sh.threads; nodes = sh.nodes; flag = sh.flag; tail = sh.tail; mess = sh.mess; low = sh.low; high = sh.high; entered = sh.entered; used = x }

-- ---- one number of a thread changed
abbrev pub ◌⟨line≔◌⟩ : Thread → ℕ → Thread
v ⟨line≔ x ⟩ = record { line = x; my = v.my; prev = v.prev; succ = v.succ; nxmy = v.nxmy; slot = v.slot }

abbrev pub ◌⟨my≔◌⟩ : Thread → NodeNo → Thread
v ⟨my≔ x ⟩ = record { line = v.line; my = x; prev = v.prev; succ = v.succ; nxmy = v.nxmy; slot = v.slot }

abbrev pub ◌⟨prev≔◌⟩ : Thread → NodeNo → Thread
v ⟨prev≔ x ⟩ = record { line = v.line; my = v.my; prev = x; succ = v.succ; nxmy = v.nxmy; slot = v.slot }

abbrev pub ◌⟨succ≔◌⟩ : Thread → NodeNo → Thread
v ⟨succ≔ x ⟩ = record { line = v.line; my = v.my; prev = v.prev; succ = x; nxmy = v.nxmy; slot = v.slot }

abbrev pub ◌⟨nxmy≔◌⟩ : Thread → NodeNo → Thread
v ⟨nxmy≔ x ⟩ = record { line = v.line; my = v.my; prev = v.prev; succ = v.succ; nxmy = x; slot = v.slot }

abbrev pub ◌⟨slot≔◌⟩ : Thread → Place → Thread
v ⟨slot≔ x ⟩ = record { line = v.line; my = v.my; prev = v.prev; succ = v.succ; nxmy = v.nxmy; slot = x }

-- ---- one number of a node changed
abbrev pub ◌⟨next≔◌⟩ : Node → NodeNo → Node
nd ⟨next≔ x ⟩ = record { next = x; locked = nd.locked }

abbrev pub ◌⟨locked≔◌⟩ : Node → ℕ → Node
nd ⟨locked≔ x ⟩ = record { next = nd.next; locked = x }

-- ---- one part of the state changed
abbrev pub ◌⟨shared≔◌⟩ : State → Shared → State
s ⟨shared≔ x ⟩ = record { shared = x; node = s.node; thread = s.thread }

abbrev pub ◌⟨node◌≔◌⟩ : State → NodeNo → Node → State
s ⟨node k ≔ x ⟩ = record { shared = s.shared; node = set_nth s.node k.0 x; thread = s.thread }

abbrev pub ◌⟨thread◌≔◌⟩ : State → ThreadNo → Thread → State
s ⟨thread t ≔ x ⟩ = record { shared = s.shared; node = s.node; thread = set_nth s.thread t.0 x }
