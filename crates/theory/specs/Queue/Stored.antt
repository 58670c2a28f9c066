-- A state's shared numbers, as the theory sees them, and what is seen after a line's stores: S is what is to be shown of memory and threads, for any S and any
-- machine on states like ours (`look` says at which line it sees a thread). A line stores the shared numbers and its thread, and besides these nothing,
-- next of one node, or locked of one node. `Keeps` is what a step has to show: S of what is seen, and the counts. Rests on View and Counts. Assumes nothing.
use Rattle.std.specs.Prelude.{◌≡◌, refl, ℕ, ◌+◌, length}
use Rattle.std.proofs.Common.{subst, sym, arith}
use Rattle.figure.specs.Figure.{line}
use Rattle.lock.specs.Laws.{nth_set_same}
use Rattle.lock.specs.State.{◌⟨locked≔◌⟩, ◌⟨next≔◌⟩, ◌⟨node◌≔◌⟩, ◌⟨shared≔◌⟩, ◌⟨thread◌≔◌⟩, node_at, nth, set_nth}
use Rattle.lock.specs.Valid.{Between, Valid}
use Rattle.lock.specs.declared.Shared.{Shared}
use Rattle.lock.specs.declared.State.{State}
use Rattle.lock.specs.declared.Thread.{Thread}
use Rattle.number.specs.declared.NodeNo.{NodeNo}
use Rattle.number.specs.declared.ThreadNo.{ThreadNo}
use Rattle.theory.specs.Queue.Counts.{Balance, Counts, counts_kept}
use Rattle.theory.specs.Queue.Functions.{upd}
use Rattle.theory.specs.Queue.Seen.{Seen}
use Rattle.theory.specs.Queue.View.{locked_in, locked_kept, locked_stored, next_in, next_kept, next_stored, threads_in, threads_stored, used_in, view}
use Rattle.theory.specs.Queue.Memory.{Memory}

-- the shared numbers, beside what is seen of the nodes
abbrev pub memory_with : ℕ → Shared → (ℕ → ℕ) → (ℕ → ℕ) → (ℕ → ℕ) → (ℕ → ℕ) → (ℕ → ℕ) → Memory
memory_with base sh used next locked owner taker = record {
  flag = sh.flag;
  tail = sh.tail.0;
  mess = sh.mess.0;
  low = base + sh.low.0;
  high = base + sh.high.0;
  used = used;
  next = next;
  locked = locked;
  owner = owner;
  taker = taker;
}

-- all that is seen of a state but its threads; who owns a node and who took a place is given beside it
abbrev pub memory_of : ℕ → State → (ℕ → ℕ) → (ℕ → ℕ) → Memory
memory_of base s owner taker = memory_with base s.shared (used_in s.shared.used) (next_in s.node) (locked_in s.node) owner taker

module _ (look : Thread → ℕ) (base : ℕ) (S : Memory → (ℕ → Seen) → Type 0) (owner taker : ℕ → ℕ) where
  -- S of what is seen of a state
  abbrev pub Of : State → Type 0
  Of s = S (memory_of base s owner taker) (threads_in look base s.thread)

  module _ (s : State) (p : ThreadNo) (inside : Between 1 p.0 (length s.thread)) (sh : Shared) (v : Thread) where
    -- the threads, with v for p
    abbrev threads : ℕ → Seen
    threads = upd (threads_in look base s.thread) p.0 (view look base v)

    -- no node is stored; the nodes in use may change
    pub stored : {used : ℕ → ℕ} → used_in sh.used ≡ used → S (memory_with base sh used (next_in s.node) (locked_in s.node) owner taker) threads
        → Of (s ⟨shared≔ sh ⟩ ⟨thread p ≔ v ⟩)
    stored e h = rw (threads_stored look base s.thread p.0 v inside.from inside.to, e) h

    module _ (k : NodeNo) (there : Between 1 k.0 (length s.node)) where
      -- next of node k is stored
      pub stored_next : (n : NodeNo)
          → S (memory_with base sh (used_in sh.used) (upd (next_in s.node) k.0 n.0) (locked_in s.node) owner taker) threads
          → Of (s ⟨shared≔ sh ⟩ ⟨node k ≔ node_at s k ⟨next≔ n ⟩ ⟩ ⟨thread p ≔ v ⟩)
      stored_next n h =
          rw (
            threads_stored look base s.thread p.0 v inside.from inside.to,
            next_stored s.node k.0 (node_at s k ⟨next≔ n ⟩) there.from there.to,
            locked_kept s.node k.0 (node_at s k ⟨next≔ n ⟩) there.from there.to refl,
          ) h

      -- locked of node k is stored
      pub stored_locked : (b : ℕ)
          → S (memory_with base sh (used_in sh.used) (next_in s.node) (upd (locked_in s.node) k.0 b) owner taker) threads
          → Of (s ⟨shared≔ sh ⟩ ⟨node k ≔ node_at s k ⟨locked≔ b ⟩ ⟩ ⟨thread p ≔ v ⟩)
      stored_locked b h =
          rw (
            threads_stored look base s.thread p.0 v inside.from inside.to,
            next_kept s.node k.0 (node_at s k ⟨locked≔ b ⟩) there.from there.to refl,
            locked_stored s.node k.0 (node_at s k ⟨locked≔ b ⟩) there.from there.to,
          ) h

-- ---- a step of thread p: S of what is seen after it, and the counts
module _ (look : Thread → ℕ) (base : ℕ) (S : Memory → (ℕ → Seen) → Type 0) (a b c : ℕ) (s : State) (p : ThreadNo) (rule : Valid s)
    (exists : Between 1 p.0 s.shared.threads) (counts : Counts a b c s) where
  -- what is to be shown of the state after the step; who owns a node and who took a place may have changed
  pub record Keeps (s' : State) : Type 0 where
    pub owner' : ℕ → ℕ
    pub taker' : ℕ → ℕ
    pub seen' : Of look base S owner' taker' s'
    pub counts' : Counts a b c s'

  -- the thread stands in the table
  pub inside : Between 1 p.0 (length s.thread)
  inside = omega (arith, exists, rule.shared.threads, rule.sized.threads)

  -- two variables of the thread, stored one after the other, are one store
  pub thread_there : (w d : Thread) → nth (set_nth s.thread p.0 w) p.0 d ≡ w
  thread_there w d = nth_set_same s.thread p.0 w d inside.from inside.to

  -- the step is at line l, it is balanced, and after it p is w
  module _ (l : ℕ) (e : line s p ≡ l) (owner' taker' : ℕ → ℕ) (sh : Shared) (w : Thread) (even : Balance a b c l w.line s.shared sh) where
    abbrev threads' : ℕ → Seen
    threads' = upd (threads_in look base s.thread) p.0 (view look base w)

    -- s₁ is s with these stores, whatever it has stored in its nodes
    pub keeps_by : (s₁ s' : State) → s₁.shared ≡ sh → s₁.thread ≡ set_nth s.thread p.0 w → Of look base S owner' taker' s₁ → s' ≡ s₁ → Keeps s'
    keeps_by s₁ s' shared-is thread-is h q = subst Keeps (sym q) (record {
      owner' = owner';
      taker' = taker';
      seen' = h;
      counts' = counts_kept a b c s s₁ p w rule exists (rw (shared-is, e) even) thread-is counts;
    })

    -- no node is stored
    pub keeps_plain : {used : ℕ → ℕ} {s' : State} → used_in sh.used ≡ used
        → S (memory_with base sh used (next_in s.node) (locked_in s.node) owner' taker') threads'
        → s' ≡ s ⟨shared≔ sh ⟩ ⟨thread p ≔ w ⟩ → Keeps s'
    keeps_plain {used} {s'} u h = keeps_by _ s' refl refl (stored look base S owner' taker' s p inside sh w u h)

    module _ (k : NodeNo) (there : Between 1 k.0 (length s.node)) where
      -- next of node k is stored
      pub keeps_next : {s' : State} (x : NodeNo)
          → S (memory_with base sh (used_in sh.used) (upd (next_in s.node) k.0 x.0) (locked_in s.node) owner' taker') threads'
          → s' ≡ s ⟨shared≔ sh ⟩ ⟨node k ≔ node_at s k ⟨next≔ x ⟩ ⟩ ⟨thread p ≔ w ⟩ → Keeps s'
      keeps_next {s'} x h = keeps_by _ s' refl refl (stored_next look base S owner' taker' s p inside sh w k there x h)

      -- locked of node k is stored
      pub keeps_locked : {s' : State} (x : ℕ)
          → S (memory_with base sh (used_in sh.used) (next_in s.node) (upd (locked_in s.node) k.0 x) owner' taker') threads'
          → s' ≡ s ⟨shared≔ sh ⟩ ⟨node k ≔ node_at s k ⟨locked≔ x ⟩ ⟩ ⟨thread p ≔ w ⟩ → Keeps s'
      keeps_locked {s'} x h = keeps_by _ s' refl refl (stored_locked look base S owner' taker' s p inside sh w k there x h)
