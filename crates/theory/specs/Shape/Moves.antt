-- What a step leaves to show. A step of thread p changes p itself and little of memory, so that most of the shape is as it was. Here stands what carries it
-- over: facts about one thread, and then the two kinds of step that several lines take. A thread readies its node before it enters the queue (`readies`), and
-- it goes on in the queue (`goes_on_lem`, and `moves` where memory stays as it is). Lines.antt adds what each line has of its own. Assumes nothing.
use Rattle.std.specs.Prelude.{cond, ◌≢◌, ◌↔◌, ◌≡◌, refl, ℕ, ◌+◌, ◌≤◌, ◌<◌, eqb}
use Rattle.std.proofs.Common.{◌∙◌, arith, eq-eqb, ne_eqb}
use Rattle.std.proofs.Math.Decide.{ℕ_discrete}
use Rattle.theory.specs.Queue.AtLines.{At, In, map, put}
use Rattle.theory.specs.Queue.Functions.{by, upd, upd_other, upd_same}
use Rattle.theory.specs.Queue.Links.{Facts, links, links_out}
use Rattle.theory.specs.Queue.Nodes.{HasNode, Nodes, nodes_stay}
use Rattle.theory.specs.Queue.Places.{HasPlace, places_stay}
use Rattle.theory.specs.Queue.Seen.{Seen, at_line, ◌⟦line≔◌⟧, ◌⟦my≔◌⟧, ◌⟦nxmy≔◌⟧, ◌⟦succ≔◌⟧}
use Rattle.theory.specs.Queue.Memory.{Memory, ◌⟦flag≔◌⟧, ◌⟦locked≔◌⟧, ◌⟦mess≔◌⟧, ◌⟦next≔◌⟧, ◌⟦owner≔◌⟧, ◌⟦used≔◌⟧}
use Rattle.theory.specs.Shape.Shape.{ClosedBehind, Last, Link, Linked, Open, Own, Shape, Turn, Unlinked}

-- ---- where what is said of a thread does not change

-- `Link` and `Last` say nothing of a thread out of the queue, nor of next of a thread that owns no node
pub facts : Facts 16 29 12 26 Link Last
facts = record {
  out_of_queue = λ v w n out. record {
    unlinked = put λ x. absurd (out (omega arith));
    linked = put λ x. absurd (out (omega arith));
    apart = put λ x. absurd (out (omega arith));
  };
  link_next = λ v w n n' same l. record {
    unlinked = map (λ x u. omega (arith, same (omega arith) (omega arith))) l.unlinked;
    linked = map (λ x u. record { set = map (λ y s. omega (arith, same (omega arith) (omega arith))) u.set; seen = u.seen }) l.linked;
    apart = l.apart;
  };
  last_next = λ v t n n' same l. record { opened = λ z. let o = l.opened z in omega (arith, same (omega arith)); closed = l.closed };
}

-- locked of its node matters only to a thread that owns one
pub locked_apart : {line slot locked locked' low flag : ℕ} → (In 12 26 line → locked' ≡ locked)
    → Turn line slot locked low flag → Turn line slot locked' low flag
locked_apart same x = record {
  still_locked = map (λ y z. omega (arith, same (omega arith))) x.still_locked;
  for_flag = x.for_flag;
  flag_found = x.flag_found;
  behind = x.behind;
  spinning = map (λ y z. rw (same (omega arith)) z) x.spinning;
  inside = x.inside;
}

-- who is behind the front, and behind it still, waits on whatever becomes of the front and the flag
pub turn_behind : {line slot locked low low' flag flag' : ℕ} → (In 16 29 line → low < slot) → (In 16 29 line → low' < slot) → locked ≤ 1 → flag' ≤ 1
    → Turn line slot locked low flag → Turn line slot locked low' flag'
turn_behind was still k f x = record {
  still_locked = x.still_locked;
  for_flag = put (λ y. omega (arith, still (omega arith)));
  flag_found = map (λ y z. absurd (omega (arith, was (omega arith)))) x.flag_found;
  behind = put (λ y. still (omega arith));
  spinning = map (λ y z.
      let w = was (omega arith) in
      let s = still (omega arith) in
      record { unlocked = λ e. absurd (omega (arith, z.unlocked e)); front_unlocked = omega arith; flag_down = omega arith }) x.spinning;
  inside = map (λ y z. absurd (omega (arith, was (omega arith)))) x.inside;
}

-- ---- a thread that goes on in the queue: it is v before the step, and w after it

-- What is said of it as the thread before another (u), and as the last, is still so, with next of its node and the tail as they were.
pub record Moves (v w : Seen) (next tail : ℕ) : Type 0 where
  pub unlinked : (u : Seen) → Unlinked u v next → Unlinked u w next
  pub linked : (u : Seen) → Linked u v next → Linked u w next
  pub apart : ClosedBehind v → ClosedBehind w
  pub opened : tail ≢ 0 → Open v tail next → Open w tail next

module _ {v w : Seen} {next tail : ℕ} (g : Moves v w next tail) where
  -- so is then all that is said of it and the thread behind it, ..
  pub link_moves : (u : Seen) → Link u v next → Link u w next
  link_moves u l = record {
    unlinked = map (λ _. g.unlinked u) l.unlinked;
    linked = map (λ _. g.linked u) l.linked;
    apart = map (λ _. g.apart) l.apart;
  }

  -- .. and of it as the last
  pub last_moves : Last v tail next → Last w tail next
  last_moves l = record { opened = λ z. g.opened z (l.opened z); closed = λ z. g.apart (l.closed z) }

-- What is left to show of it, with m for memory after the step. Nothing is said of it and the thread before it then, as at 17 and from 20 on.
pub record GoesOn (m : Memory) (v w : Seen) : Type 0 where
  pub from : In 16 29 v.line
  pub to : In 16 29 w.line
  pub back : (u : Seen) (n : ℕ) → Link w u n
  pub moves : Moves v w (m.next w.my) m.tail
  pub flag_range : m.flag ≤ 1
  pub flag_empty : m.low < m.high + m.flag

-- what a thread changes of itself in the queue: its line, succ and nxmy
abbrev pub moved : Seen → ℕ → ℕ → ℕ → Seen
moved v l s n = v ⟦succ≔ s ⟧ ⟦nxmy≔ n ⟧ ⟦line≔ l ⟧

-- all that is known of thread p, which is v, at line k
pub record Here (m : Memory) (p : ℕ) (v : Seen) (k : ℕ) : Type 0 where
  pub own : Own m (v ⟦line≔ k ⟧)
  pub node : At 12 26 k (HasNode p v.my (m.used v.my) (m.owner v.my))
  pub place : At 16 29 k (HasPlace p v.slot m.low m.high (m.taker v.slot))

-- ---- a step of thread p
module _ {m : Memory} {th : ℕ → Seen} (i : Shape m th) (p : ℕ) where
  -- what the shape says of p itself
  pub here : (k : ℕ) → (th p).line ≡ k → Here m p (th p) k
  here k e = record {
    own = rw (at_line k (th p) e) at (i.own p);
    node = put λ x. i.nodes.node p (omega arith);
    place = put λ x. i.places.place p (omega arith);
  }

  -- what is said of p, which is w after the step, and of the others is said of every thread
  pub each : (m' : Memory) (w : Seen) → Own m' w → ((q : ℕ) → q ≢ p → Own m' (th q)) → (q : ℕ) → Own m' (upd th p w q)
  each m' w own others = by p (rw upd_same own) (λ q d. rw (upd_other th) (others q d))

  -- f and g agree on the nodes of the others
  abbrev pub SameElsewhere : (ℕ → ℕ) → (ℕ → ℕ) → Type 0
  SameElsewhere f g = (q : ℕ) → q ≢ p → In 12 26 (th q).line → f (th q).my ≡ g (th q).my

  -- p, at line k and not in the queue yet, readies its node: nobody else's next and locked change. Left to the line is what it says of p, which nodes are in
  -- use then, and what it stores.
  pub readies : (k : ℕ) {used owner next locked : ℕ → ℕ} {n l : ℕ} → (th p).line ≡ k → (k ≤ 14) × (l ≤ 14)
      → let m' = m ⟦used≔ used ⟧ ⟦owner≔ owner ⟧ ⟦next≔ next ⟧ ⟦locked≔ locked ⟧ in
      let w = th p ⟦my≔ n ⟧ ⟦line≔ l ⟧ in
      (Here m p (th p) k → Own m' w) → Nodes 12 26 (upd th p w) used owner
      → SameElsewhere next m.next → SameElsewhere locked m.locked → ((k : ℕ) → locked k ≤ 1) → Shape m' (upd th p w)
  readies k {used} {owner} {next} {locked} {n} {l} e out own nodes next-same locked-same range =
      let w : Seen = th p ⟦my≔ n ⟧ ⟦line≔ l ⟧ in
      record {
        shared = record {
          flag_range = i.shared.flag_range;
          flag_empty = i.shared.flag_empty;
          tail_empty = i.shared.tail_empty;
          locked_range = range;
        };
        places = places_stay i.places p w (λ x. omega arith) (λ x. omega arith) refl;
        nodes = nodes;
        own = each (m ⟦used≔ used ⟧ ⟦owner≔ owner ⟧ ⟦next≔ next ⟧ ⟦locked≔ locked ⟧) w (own (here k e))
            (λ q d.
            let x = i.own q in
            record {
              private = x.private;
              cleared = map (λ y z. next-same q d (omega arith) ∙ z) x.cleared;
              turn = locked_apart (locked-same q d) x.turn;
              mess = x.mess;
            });
        links =
            links_out th p w i.links (λ x. omega arith)
            (λ u k. facts.out_of_queue w u k (λ x. omega arith))
            (λ r d q. facts.link_next _ _ _ _ (λ _. next-same r d))
            (λ r d. facts.last_next _ _ _ _ (next-same r d));
      }

  -- p, at line k, goes on in the queue, and the flag, mess and the nodes in use may change. Left to the line is `GoesOn`, what it says of p, which nodes are in
  -- use then, and what is said of the other threads.
  pub goes_on_lem : (k : ℕ) {flag mess : ℕ} {used : ℕ → ℕ} {l s n : ℕ} → (th p).line ≡ k
      → let m' = m ⟦flag≔ flag ⟧ ⟦mess≔ mess ⟧ ⟦used≔ used ⟧ in
      let w = moved (th p) l s n in
      (Here m p (th p) k → GoesOn m' (th p ⟦line≔ k ⟧) w) → (Here m p (th p) k → Own m' w)
      → Nodes 12 26 (upd th p w) used m.owner → ((q : ℕ) → q ≢ p → Own m' (th q)) → Shape m' (upd th p w)
  goes_on_lem k {flag} {mess} {used} {l} {s} {n} e rest own nodes others =
      let o = here k e in
      let g = rest o in
      let w : Seen = moved (th p) l s n in
      let moves : Moves (th p) w (m.next (th p).my) m.tail = rw (at_line k (th p) e) g.moves in
      record {
        shared = record {
          flag_range = g.flag_range;
          flag_empty = g.flag_empty;
          tail_empty = i.shared.tail_empty;
          locked_range = i.shared.locked_range;
        };
        places = places_stay i.places p w (λ _. omega arith) (λ _. g.to) refl;
        nodes = nodes;
        own = each (m ⟦flag≔ flag ⟧ ⟦mess≔ mess ⟧ ⟦used≔ used ⟧) w (own o) others;
        links =
            links th p w
            (λ r d x h. g.back _ _)
            (λ q d x h. link_moves moves (th q) (i.links.link q p (omega arith) h))
            (λ q r d c. i.links.link q r)
            (λ x h. last_moves moves (i.links.last p (omega arith) h))
            (λ q d. i.links.last q);
      }

  -- .. and memory stays as it is: p keeps its node, if it owns one, and what is said of the others is as it was
  pub moves : (k : ℕ) {l s n : ℕ} → (th p).line ≡ k → In 12 26 k ↔ In 12 26 l
      → let w = moved (th p) l s n in
      (Here m p (th p) k → GoesOn m (th p ⟦line≔ k ⟧) w) → (Here m p (th p) k → Own m w) → Shape m (upd th p w)
  moves k {l} {s} {n} e owner rest own =
      goes_on_lem k e rest own
      (nodes_stay i.nodes p (moved (th p) l s n) (λ x. rw e (owner.1 x)) (λ x. owner.0 (rw e at x)) refl)
      (λ q d. i.own q)

-- ---- the line that a test leads to

-- what holds of a where x is 0, and of b where it is not, holds of the one that the test of x gives
pub by_test : (P : ℕ → Type 0) (x a b : ℕ) → (x ≡ 0 → P a) → (x ≢ 0 → P b) → P (cond (eqb x 0) a b)
by_test P x a b none some = go (ℕ_discrete x 0)
  where
    go : Dec (x ≡ 0) → P (cond (eqb x 0) a b)
    go (yes e) = rw (eq-eqb x 0 e) (none e)
    go (no n) = rw (ne_eqb x 0 n) (some n)
