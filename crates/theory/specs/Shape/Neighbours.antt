-- Who stands where: what the shape says of the thread before another, of the one behind it, and of the last. Lines.antt needs these facts where a line waits
-- (16) or reaches another thread (18, 22, 29), and Goes.antt needs them again. Each is shown by ruling out lines at which the other thread cannot be.
-- Assumes nothing.
use Rattle.std.specs.Prelude.{◌≢◌, ◌≡◌, ℕ, ◌+◌, ◌≤◌, ◌<◌}
use Rattle.std.proofs.Common.{ap, ◌∙◌, arith}
use Rattle.theory.specs.Queue.AtLines.{In, get}
use Rattle.theory.specs.Queue.Nodes.{one_owner}
use Rattle.theory.specs.Queue.Places.{before, holder, last_one}
use Rattle.theory.specs.Queue.Seen.{Seen}
use Rattle.theory.specs.Queue.Memory.{Memory}
use Rattle.theory.specs.Shape.Shape.{Link, Shape, Unlinked}

-- thread v, behind w: it is at 16, 18 or 19, and for each of these `link` says how it stands with w
pub record Behind (v w : Seen) (next : ℕ) : Type 0 where
  pub range : In 16 19 v.line
  pub not_17 : v.line ≢ 17
  pub link : Link v w next

-- thread v, behind w, waits for w to unlock it: its node is w's succ
pub record Succeeds (v w : Seen) : Type 0 where
  pub place : v.slot ≡ w.slot + 1
  pub spins : v.line ≡ 19
  pub node : v.my ≡ w.succ

module _ {m : Memory} {th : ℕ → Seen} (i : Shape m th) where
  -- q is in the queue
  abbrev Queued : ℕ → Type 0
  Queued q = In 16 29 (th q).line

  -- ---- the last one

  -- whose node is the tail, is the last
  pub tail_last : (p : ℕ) → In 16 22 (th p).line → m.tail ≡ (th p).my → (th p).slot + 1 ≡ m.high
  tail_last p x e =
      let z = last_one i.places (omega (arith, i.places.place p (omega arith))) in
      let o = (i.links.last z.0 z.1 z.2).opened (omega (arith, i.nodes.node p (omega arith))) in
      ap (λ q. (th q).slot + 1) (one_owner i.nodes p z.0 (omega arith) (omega arith) (omega arith)) ∙ z.2

  -- who is at 23 or 24, or has seen a successor since, is not the last
  pub one_behind : (p : ℕ) → In 23 29 (th p).line → (25 ≤ (th p).line → (th p).nxmy ≢ 0) → (q : ℕ) × Queued q × ((th q).slot ≡ (th p).slot + 1)
  one_behind p x h =
      let y = i.places.place p (omega arith) in
      let not_last : (th p).slot + 1 ≢ m.high = λ e.
      let l = i.links.last p (omega arith) e in
      let set : m.tail ≢ 0 = λ z. h (l.closed z).closed.0 (l.closed z).none_seen in
      omega (arith, l.opened set) in
      holder i.places ((th p).slot + 1) (omega arith) (omega arith)

  -- ---- the thread before

  -- who is at 16 with the flag up is at the front: a thread before it would be inside, and the flag down
  pub front_16 : (p : ℕ) → (th p).line ≡ 16 → m.flag ≡ 1 → (th p).slot ≡ m.low
  front_16 p e raised =
      let at_front : ¬ (m.low < (th p).slot) = λ h.
      let r = before i.places p (omega arith) h in
      let c = get (i.links.link p r.0 r.1 r.2).apart (omega arith) in
      omega (arith, get (i.own r.0).turn.inside (omega arith)) in
      omega (arith, i.places.place p (omega arith))

  -- at 18 there is a thread before: prev is its node, which it owns still
  pub before_18 : (p : ℕ) → (th p).line ≡ 18 → (r : ℕ) × ((th p).slot ≡ (th r).slot + 1) × Unlinked (th p) (th r) (m.next (th r).my)
  before_18 p e =
      let r = before i.places p (omega arith) (get (i.own p).turn.behind (omega arith)) in
      (r.0, r.2, get (i.links.link p r.0 r.1 r.2).unlinked (omega arith))

  -- ---- the thread behind

  -- it is not at the front, and so not past its waiting
  pub behind : (p q : ℕ) → Queued p → Queued q → (th q).slot ≡ (th p).slot + 1 → Behind (th q) (th p) (m.next (th p).my)
  behind p q x y e =
      let h = i.places.place p x in
      let not-inside : ¬ (20 ≤ (th q).line) = λ l. omega (arith, get (i.own q).turn.inside (omega arith)) in
      record { range = omega arith; not_17 = λ l. omega (arith, get (i.own q).turn.flag_found (omega arith)); link = i.links.link q p x e }

  -- at 29 with a successor, the thread behind waits at 19, and its node is succ
  pub behind_29 : (p : ℕ) → (th p).line ≡ 29 → (th p).succ ≢ 0 → (q : ℕ) × Succeeds (th q) (th p)
  behind_29 p e some =
      let s = get (i.own p).private.returned (omega arith) in
      let q = one_behind p (omega arith) (omega arith) in
      let b = behind p q.0 (omega arith) q.1 q.2 in
      let not_16 : (th q.0).line ≢ 16 = λ l. omega (arith, get b.link.apart (omega arith)) in
      let not-18 : (th q.0).line ≢ 18 = λ l. omega (arith, get b.link.unlinked (omega arith)) in
      let seen = get (get b.link.linked (omega arith)).seen (omega arith) in
      (q.0, omega arith)

  -- at 29 with none, whoever is behind stands at 16
  pub behind_29_none : (p : ℕ) → (th p).line ≡ 29 → (th p).succ ≡ 0 → (q : ℕ) → Queued q → (th q).slot ≡ (th p).slot + 1 → (th q).line ≡ 16
  behind_29_none p e none q x h =
      let s = get (i.own p).private.returned (omega arith) in
      let b = behind p q (omega arith) x h in
      let not-18 : (th q).line ≢ 18 = λ l. omega (arith, get b.link.unlinked (omega arith)) in
      let not-19 : (th q).line ≢ 19 = λ l.
      let seen = get (get b.link.linked (omega arith)).seen (omega arith) in
      omega (arith, i.nodes.node q (omega arith)) in
      omega arith
