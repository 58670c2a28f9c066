-- What follows from the shape: the node that a line follows is in use, some thread can go on, one thread at most is inside, and the lock is free exactly where
-- nobody is in the queue. Rests on who stands where (Neighbours). Assumes nothing.
use Rattle.std.specs.Prelude.{◌≢◌, ◌≡◌, ℕ, ◌≤◌, ◌<◌}
use Rattle.std.proofs.Math.Decide.{dec_le, ℕ_discrete}
use Rattle.std.proofs.Common.{arith}
use Rattle.theory.specs.Queue.AtLines.{In, get}
use Rattle.theory.specs.Queue.Places.{holder, last_one, one_place}
use Rattle.theory.specs.Queue.Seen.{Seen}
use Rattle.theory.specs.Queue.Memory.{Memory}
use Rattle.theory.specs.Shape.Neighbours.{before_18, behind, behind_29, one_behind}
use Rattle.theory.specs.Shape.Shape.{Shape}

-- k is a node, and in use
pub record Used (m : Memory) (k : ℕ) : Type 0 where
  pub some : 1 ≤ k
  pub used : m.used k ≡ 1

-- the thread is off line 11, and what its line waits for, if it waits, is so
pub record Able (m : Memory) (v : Seen) : Type 0 where
  pub off : 12 ≤ v.line
  pub flag : v.line ≡ 16 → m.flag ≡ 1
  pub unlocked : v.line ≡ 19 → m.locked v.my ≡ 0
  pub linked : v.line ≡ 23 → m.next v.my ≢ 0

module _ {m : Memory} {th : ℕ → Seen} (i : Shape m th) where
  -- ---- the nodes that a line follows

  -- my, at every line that follows it
  pub my_used : (p : ℕ) → In 12 26 (th p).line → Used m (th p).my
  my_used p x = let n = i.nodes.node p x in record { some = n.some; used = n.used }

  -- prev, at line 18: it is the node of the thread before
  pub prev_used : (p : ℕ) → (th p).line ≡ 18 → Used m (th p).prev
  prev_used p e = let r = before_18 i p e in rw r.2.prev (my_used r.0 (omega arith))

  -- succ, at line 29: it is the node of the thread behind
  pub succ_used : (p : ℕ) → (th p).line ≡ 29 → (th p).succ ≢ 0 → Used m (th p).succ
  succ_used p e some = let q = behind_29 i p e some in rw (← q.1.node) (my_used q.0 (omega arith))

  -- ---- some thread can go on

  -- behind a thread that waits at 23 stands one at 18, about to tell it
  tells : (p : ℕ) → (th p).line ≡ 23 → m.next (th p).my ≡ 0 → (q : ℕ) × ((th q).line ≡ 18)
  tells p e unset =
      let q = one_behind i p (omega arith) (omega arith) in
      let b = behind i p q.0 (omega arith) q.1 q.2 in
      let not_16 : (th q.0).line ≢ 16 = λ l. omega (arith, get b.link.apart (omega arith)) in
      let not-19 : (th q.0).line ≢ 19 = λ l.
      omega (arith, get (get b.link.linked (omega arith)).set (omega arith), i.nodes.node q.0 (omega arith)) in
      (q.0, omega arith)

  -- so the thread at the front can go on, or the one behind it
  front_goes : (p : ℕ) → In 16 29 (th p).line → (th p).slot ≡ m.low → (q : ℕ) × Able m (th q)
  front_goes p x s = go (ℕ_discrete (th p).line 23) (ℕ_discrete (m.next (th p).my) 0)
    where
      able : ((th p).line ≡ 23 → m.next (th p).my ≢ 0) → Able m (th p)
      able linked = record {
        off = omega arith;
        flag = λ l. omega (arith, get (i.own p).turn.for_flag (omega arith), i.shared.flag_range);
        unlocked = λ l. omega (arith, (get (i.own p).turn.spinning (omega arith)).front_unlocked);
        linked = linked;
      }

      go : Dec ((th p).line ≡ 23) → Dec (m.next (th p).my ≡ 0) → (q : ℕ) × Able m (th q)
      go (no n) d = (p, able (λ l. absurd (n l)))
      go (yes e) (no n) = (p, able (λ l. n))
      go (yes e) (yes z) = let q = tells p e z in (q.0, omega (arith, q.1))

  -- where a thread is off line 11, some thread off line 11 can go on
  pub progress : (p : ℕ) → 12 ≤ (th p).line → (q : ℕ) × Able m (th q)
  progress p h = go (dec_le 16 (th p).line)
    where
      go : Dec (16 ≤ (th p).line) → (q : ℕ) × Able m (th q)
      go (yes l) =
          let x = i.places.place p (l, (i.own p).private.line_range) in
          let f = holder i.places m.low (omega arith) (omega arith) in
          front_goes f.0 f.1 f.2
      go (no l) = (p, omega arith)

  -- ---- who is inside

  -- who is inside is at the front
  pub front : (q : ℕ) → In 20 29 (th q).line → (th q).slot ≡ m.low
  front q x = (get (i.own q).turn.inside x).0

  -- so no two threads are inside
  pub one_inside : (q r : ℕ) → In 20 29 (th q).line → In 20 29 (th r).line → q ≡ r
  one_inside q r x y = one_place i.places q r (omega arith) (omega arith) (omega (arith, front q x, front r y))

  -- ---- the lock is free exactly where nobody is in the queue

  -- a last thread under an empty tail would be inside, and the flag down
  pub free_empty : m.tail ≡ 0 → m.flag ≡ 1 → m.low ≡ m.high
  free_empty unset raised =
      let n : ¬ (m.low < m.high) = λ h.
      let z = last_one i.places (omega arith) in
      let c = (i.links.last z.0 z.1 z.2).closed unset in
      omega (arith, get (i.own z.0).turn.inside (omega arith)) in
      omega (arith, i.places.order)

  -- and an empty queue leaves the tail empty and the flag up
  pub empty_free : m.low ≡ m.high → (m.tail ≡ 0) × (m.flag ≡ 1)
  empty_free e = (i.shared.tail_empty e, omega (arith, i.shared))
