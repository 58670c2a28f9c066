-- Each line of Figure 1 keeps the shape. Thread p executes the line that it stands at: memory and thread after the step stand in the statement, under the
-- figure's own text and the reason why the shape is kept. Lines 15 and 21, which only look, are no steps here: at 14 and 20 the thread is seen at the line that
-- it goes on to. Nearly all that a line leaves to show is arithmetic over what is known of p at its line (`here`). A line that changes p alone is `moves`, with
-- three such facts: p keeps its node, what other threads know of p is still so, and what its new line says of p is so. The lines that reach another thread rest
-- on who stands where (Neighbours); `far` says of the other threads that they are not reached. Assumes nothing.
use Rattle.std.specs.Prelude.{cond, ◌≢◌, ◌≡◌, refl, ℕ, ◌+◌, ◌≤◌, eqb}
use Rattle.std.proofs.Common.{ap, ◌∙◌, arith}
use Rattle.theory.specs.Queue.AtLines.{In, get, map, put}
use Rattle.theory.specs.Queue.Functions.{by, upd, upd_at, upd_other, upd_same}
use Rattle.theory.specs.Queue.Links.{links, links_exchange, links_out, links_tell, tell_far}
use Rattle.theory.specs.Queue.Nodes.{node_apart, nodes_in_lem, nodes_out, nodes_stay, one_owner}
use Rattle.theory.specs.Queue.Places.{at_place, behind_front, one_place, places_in, places_out, places_stay}
use Rattle.theory.specs.Queue.Seen.{Seen, at_line, ◌⟦line≔◌⟧, ◌⟦my≔◌⟧, ◌⟦nxmy≔◌⟧, ◌⟦prev≔◌⟧, ◌⟦slot≔◌⟧, ◌⟦succ≔◌⟧}
use Rattle.theory.specs.Queue.Memory.{Memory, ◌⟦flag≔◌⟧, ◌⟦high≔◌⟧, ◌⟦locked≔◌⟧, ◌⟦low≔◌⟧, ◌⟦mess≔◌⟧}
use Rattle.theory.specs.Queue.Memory.{◌⟦next≔◌⟧, ◌⟦owner≔◌⟧, ◌⟦tail≔◌⟧, ◌⟦taker≔◌⟧, ◌⟦used≔◌⟧}
use Rattle.theory.specs.Shape.Moves.{Moves, by_test, each, facts, goes_on_lem, here, last_moves, link_moves, locked_apart, moves}
use Rattle.theory.specs.Shape.Moves.{readies, turn_behind}
use Rattle.theory.specs.Shape.Neighbours.{before_18, behind_29, behind_29_none, front_16, tail_last}
use Rattle.theory.specs.Shape.Shape.{Last, Link, Own, Shape, SharedShape, Turn}

module _ {m : Memory} {th : ℕ → Seen} (i : Shape m th) (p : ℕ) where
  -- locked is 0 or 1 everywhere, also where one of these is stored in it
  store_range : (n x : ℕ) → x ≤ 1 → (k : ℕ) → upd m.locked n x k ≤ 1
  store_range n x h = by n (rw upd_same h) (λ k d. rw upd_other (i.shared.locked_range k))

  -- ---- before the queue

  -- 11  NCS; choose my ∉ local; add my to local
  -- The node was nobody's, and nothing is said of a node that is not in use.
  pub keeps11 : (n : ℕ) → (th p).line ≡ 11 → 1 ≤ n → m.used n ≡ 0
      → Shape (m ⟦used≔ upd m.used n 1 ⟧ ⟦owner≔ upd m.owner n p ⟧) (upd th p (th p ⟦my≔ n ⟧ ⟦line≔ 12 ⟧))
  keeps11 n e some unused =
      readies i p 11 e (omega arith) (omega arith)
      (nodes_in_lem i.nodes p _ (omega arith) (omega arith) some unused) (λ q d x. refl) (λ q d x. refl) i.shared.locked_range

  -- 12  next(my) := ⊥
  -- The node is p's alone.
  pub keeps12 : (th p).line ≡ 12 → Shape (m ⟦next≔ upd m.next (th p).my 0 ⟧) (upd th p (th p ⟦line≔ 13 ⟧))
  keeps12 e =
      let far = node_apart i.nodes m.next 0 p (omega arith) in
      readies i p 12 e (omega arith) (λ o. omega (arith, upd_same m.next (th p).my 0))
      (nodes_stay i.nodes p _ (omega arith) (omega arith) refl) far (λ q d x. refl) i.shared.locked_range

  -- 13  locked(my) := true
  -- As at 12: the node is p's alone.
  pub keeps13 : (th p).line ≡ 13 → Shape (m ⟦locked≔ upd m.locked (th p).my 1 ⟧) (upd th p (th p ⟦line≔ 14 ⟧))
  keeps13 e =
      let far = node_apart i.nodes m.locked 1 p (omega arith) in
      readies i p 13 e (omega arith) (λ o. omega (arith, upd_same m.locked (th p).my 1))
      (nodes_stay i.nodes p _ (omega arith) (omega arith) refl) (λ q d x. refl) far (store_range (th p).my 1 (omega arith))

  -- ---- in the queue, and to its front

  -- 14  prev := tail; tail := my; slot := high; high++
  -- 15  if prev = ⊥ then (16) else (18)
  -- p is the last then. If the tail was 0, nobody was in the queue, or who was the last has closed it: p waits for the flag (16). If not, the tail was the
  -- node of who was the last, and p has still to tell it (18).
  pub keeps14 : (th p).line ≡ 14
      → Shape (m ⟦tail≔ (th p).my ⟧ ⟦high≔ m.high + 1 ⟧ ⟦taker≔ upd m.taker m.high p ⟧)
      (upd th p (th p ⟦prev≔ m.tail ⟧ ⟦slot≔ m.high ⟧ ⟦line≔ cond (eqb m.tail 0) 16 18 ⟧))
  keeps14 e =
      let o = here i p 14 e in
      by_test (λ l. Shape m' (upd th p (w l))) m.tail 16 18
      (λ none. exchanges 16 (omega arith) (omega arith) (λ r l. omega (arith, l.closed none)))
      (λ some.
      let busy : m.low ≢ m.high = λ h. some (i.shared.tail_empty h) in
      exchanges 18 (omega arith) (omega arith) (λ r l. omega (arith, l.opened some)))
    where
      -- memory after the exchange, and p after it at line l
      m' : Memory
      m' = m ⟦tail≔ (th p).my ⟧ ⟦high≔ m.high + 1 ⟧ ⟦taker≔ upd m.taker m.high p ⟧

      w : ℕ → Seen
      w l = th p ⟦prev≔ m.tail ⟧ ⟦slot≔ m.high ⟧ ⟦line≔ l ⟧

      -- for both ways on: what is left is what the new line says of p, and of p and the thread that was the last
      exchanges : (l : ℕ) → In 16 18 l → Own m' (w l)
          → ((r : ℕ) → Last (th r) m.tail (m.next (th r).my) → Link (w l) (th r) (m.next (th r).my)) → Shape m' (upd th p (w l))
      exchanges l on own back =
          let o = here i p 14 e in
          record {
            shared = record {
              flag_range = i.shared.flag_range;
              flag_empty = omega arith;
              tail_empty = λ h. absurd (omega arith);
              locked_range = i.shared.locked_range;
            };
            places = places_in i.places p (w l) (omega arith) (omega arith) refl;
            nodes = nodes_stay i.nodes p (w l) (omega arith) (omega arith) refl;
            own = each i p m' (w l) own (λ q d. i.own q);
            links = links_exchange facts i.places i.nodes i.links p (w l) refl (λ r x. back r) (omega arith);
          }

  -- 16  await (flag)
  -- With the flag up p is at the front.
  pub keeps16 : (th p).line ≡ 16 → m.flag ≡ 1 → Shape m (upd th p (th p ⟦line≔ 17 ⟧))
  keeps16 e raised = moves i p 16 e (omega arith) (omega arith) (λ o. omega (arith, front_16 i p e raised))

  -- 17  flag := false, and on behind the endif
  -- p is at the front, and whoever is behind it waits on.
  pub keeps17 : (th p).line ≡ 17 → Shape (m ⟦flag≔ 0 ⟧) (upd th p (th p ⟦line≔ 20 ⟧))
  keeps17 e =
      let o = here i p 17 e in
      let far = behind_front i.places p (omega arith) (omega arith) in
      goes_on_lem i p 17 e (omega arith) (omega arith)
      (nodes_stay i.nodes p _ (omega arith) (omega arith) refl)
      (λ q d.
      let x = i.own q in
      let turn = turn_behind (far q d) (far q d) (i.shared.locked_range (th q).my) (omega arith) x.turn in
      record { private = x.private; cleared = x.cleared; turn = turn; mess = x.mess })

  -- 18  next(prev) := my
  -- The thread before p, whose node prev is, knows of p then; nobody else's next changes.
  pub keeps18 : (th p).line ≡ 18 → Shape (m ⟦next≔ upd m.next (th p).prev (th p).my ⟧) (upd th p (th p ⟦line≔ 19 ⟧))
  keeps18 e =
      let o = here i p 18 e in
      let before = before_18 i p e in
      let r : ℕ = before.0 in
      let behind = before.1 in
      let unlinked = before.2 in
      let far = tell_far facts i.places i.nodes i.links p 19 r (omega arith) (omega arith) (omega arith) (omega arith) behind unlinked.prev in
      let w : Seen = th p ⟦line≔ 19 ⟧ in
      let g : Moves (th p) w (m.next (th p).my) m.tail = rw (at_line 18 (th p) e) (omega arith) in
      record {
        shared = i.shared;
        places = places_stay i.places p w (omega arith) (omega arith) refl;
        nodes = nodes_stay i.nodes p w (omega arith) (omega arith) refl;
        own = each i p (m ⟦next≔ upd m.next (th p).prev (th p).my ⟧) w (omega arith)
            (λ q d.
            let x = i.own q in
            let other : In 13 14 (th q).line → q ≢ r = λ y same. omega (arith, ap (λ k. (th k).line) same, unlinked.up_to_23) in
            let cleared = map (λ y z. far q (other y) (omega arith) ∙ z) x.cleared in
            record { private = x.private; cleared = cleared; turn = x.turn; mess = x.mess });
        links =
            links_tell facts i.places i.nodes i.links p 19 r (omega arith) (omega arith) (omega arith) (omega arith) behind unlinked.prev
            (record { unlinked = omega arith; linked = put λ _. record { set = put λ x. refl; seen = put λ x. omega arith }; apart = omega arith })
            (λ q. link_moves g (th q))
            (last_moves g);
      }

  -- 19  await (¬locked(my))
  -- Unlocked p is at the front.
  pub keeps19 : (th p).line ≡ 19 → m.locked (th p).my ≡ 0 → Shape m (upd th p (th p ⟦line≔ 20 ⟧))
  keeps19 e unlocked = moves i p 19 e (omega arith) (omega arith) (λ o. omega (arith, o.own.turn.spinning.body.unlocked unlocked))

  -- ---- inside

  -- 20  nxmy := succ := next(my)
  -- 21  if succ = ⊥ then (22), else on behind the endif
  -- p has seen no successor, or the thread behind it.
  pub keeps20 : (th p).line ≡ 20
      → let n = m.next (th p).my in
      Shape m (upd th p (th p ⟦nxmy≔ n ⟧ ⟦succ≔ n ⟧ ⟦line≔ cond (eqb n 0) 22 25 ⟧))
  keeps20 e =
      let n = m.next (th p).my in
      by_test (λ l. Shape m (upd th p (th p ⟦nxmy≔ n ⟧ ⟦succ≔ n ⟧ ⟦line≔ l ⟧))) n 22 25
      (λ none. moves i p 20 e (omega arith) (omega arith) (omega arith))
      (λ some. moves i p 20 e (omega arith) (omega arith) (omega arith))

  -- 22  if tail = my then tail := ⊥ and on behind the endif, else (23)
  -- Where my is the tail, p is the last: nobody is behind it, and whoever comes finds the tail empty; ..
  pub keeps22_closes : (th p).line ≡ 22 → m.tail ≡ (th p).my → Shape (m ⟦tail≔ 0 ⟧) (upd th p (th p ⟦line≔ 25 ⟧))
  keeps22_closes e last =
      let o = here i p 22 e in
      let place = tail_last i p (omega arith) last in
      let w : Seen = th p ⟦line≔ 25 ⟧ in
      record {
        shared = record {
          flag_range = i.shared.flag_range;
          flag_empty = i.shared.flag_empty;
          tail_empty = λ _. refl;
          locked_range = i.shared.locked_range;
        };
        places = places_stay i.places p w (omega arith) (omega arith) refl;
        nodes = nodes_stay i.nodes p w (omega arith) (omega arith) refl;
        own = each i p (m ⟦tail≔ 0 ⟧) w (omega arith) (λ q d. i.own q);
        links =
            links th p w
            (λ r d x h. omega arith)
            (λ q d x h. facts.out_of_queue _ _ _ (λ y. omega (arith, i.places.place q y)))
            (λ q r d c. i.links.link q r)
            (λ x h. omega arith)
            (λ q d x h. absurd (d (one_place i.places q p x (omega arith) (omega arith))));
      }

  -- .. else p is not the last.
  pub keeps22_waits : (th p).line ≡ 22 → m.tail ≢ (th p).my → Shape m (upd th p (th p ⟦line≔ 23 ⟧))
  keeps22_waits e not_last = moves i p 22 e (omega arith) (omega arith) (omega arith)

  -- 23  await (next(my) ≠ ⊥)
  -- Whoever is behind p has told it.
  pub keeps23 : (th p).line ≡ 23 → m.next (th p).my ≢ 0 → Shape m (upd th p (th p ⟦line≔ 24 ⟧))
  keeps23 e arrived = moves i p 23 e (omega arith) (omega arith) (omega arith)

  -- 24  nxmy := succ := next(my)
  -- p has seen the thread behind it.
  pub keeps24 : (th p).line ≡ 24 → let n = m.next (th p).my in Shape m (upd th p (th p ⟦nxmy≔ n ⟧ ⟦succ≔ n ⟧ ⟦line≔ 25 ⟧))
  keeps24 e = moves i p 24 e (omega arith) (omega arith) (omega arith)

  -- 25  mess := succ
  -- mess matters to the thread inside alone, which is p.
  pub keeps25 : (th p).line ≡ 25 → Shape (m ⟦mess≔ (th p).succ ⟧) (upd th p (th p ⟦line≔ 26 ⟧))
  keeps25 e =
      let o = here i p 25 e in
      let far = behind_front i.places p (omega arith) (omega arith) in
      goes_on_lem i p 25 e (omega arith) (omega arith)
      (nodes_stay i.nodes p _ (omega arith) (omega arith) refl)
      (λ q d.
      let x = i.own q in
      let mess = map (λ a y. absurd (omega (arith, far q d (omega arith), get x.turn.inside (omega arith)))) x.mess in
      record { private = x.private; cleared = x.cleared; turn = x.turn; mess = mess })

  -- 26  succ := ⊥; remove my from local
  -- The node was p's alone, and what p has seen in it is in mess.
  pub keeps26 : (th p).line ≡ 26 → Shape (m ⟦used≔ upd m.used (th p).my 0 ⟧) (upd th p (th p ⟦succ≔ 0 ⟧ ⟦line≔ 27 ⟧))
  keeps26 e =
      goes_on_lem i p 26 e (omega arith) (omega arith)
      (nodes_out i.nodes p _ (omega arith) (omega arith))
      (λ q d. i.own q)

  -- 27  CS
  -- Nothing is said of the section itself.
  pub keeps27 : (th p).line ≡ 27 → Shape m (upd th p (th p ⟦line≔ 28 ⟧))
  keeps27 e = moves i p 27 e (omega arith) (omega arith) (omega arith)

  -- 28  succ := mess
  -- mess is what p has sent itself.
  pub keeps28 : (th p).line ≡ 28 → Shape m (upd th p (th p ⟦succ≔ m.mess ⟧ ⟦line≔ 29 ⟧))
  keeps28 e = moves i p 28 e (omega arith) (omega arith) (omega arith)

  -- ---- out

  -- p leaves: whoever was behind it is at the front then, and nothing changes for the others
  leaves : (flag : ℕ) (locked : ℕ → ℕ) → (th p).line ≡ 29 → SharedShape flag (m.low + 1) m.high m.tail locked
      → ((q : ℕ) → In 16 29 (th q).line → (th q).slot ≡ (th p).slot + 1 → Turn (th q).line (th q).slot (locked (th q).my) (m.low + 1) flag)
      → ((q : ℕ) → (In 16 29 (th q).line → (th q).slot ≢ (th p).slot + 1) → In 12 26 (th q).line → locked (th q).my ≡ m.locked (th q).my)
      → Shape (m ⟦flag≔ flag ⟧ ⟦locked≔ locked ⟧ ⟦low≔ m.low + 1 ⟧) (upd th p (th p ⟦line≔ 11 ⟧))
  leaves flag locked e shared front far =
      let o = here i p 29 e in
      let behind = behind_front i.places p (omega arith) (omega arith) in
      let w : Seen = th p ⟦line≔ 11 ⟧ in
      record {
        shared = shared;
        places = places_out i.places p w (omega arith) (omega arith) (omega arith);
        nodes = nodes_stay i.nodes p w (omega arith) (omega arith) refl;
        own = each i p (m ⟦flag≔ flag ⟧ ⟦locked≔ locked ⟧ ⟦low≔ m.low + 1 ⟧) w (omega arith)
            (λ q d.
            let x = i.own q in
            let range = i.shared.locked_range (th q).my in
            let turn = at_place i.places q ((th p).slot + 1) (front q) (λ n.
            locked_apart (far q n) (turn_behind (behind q d) (λ y. omega (arith, behind q d y, n y)) range shared.flag_range x.turn)) in
            record { private = x.private; cleared = x.cleared; turn = turn; mess = x.mess });
        links = links_out th p w i.links (omega arith) (λ u n. omega arith) (λ r d q l. l) (λ r d l. l);
      }

  -- 29  if succ ≠ ⊥ then locked(succ) := false else flag := true endif; low++
  -- With a successor the thread behind p waits for its unlocking, and no other thread owns the node that is unlocked; ..
  pub keeps29_unlocks : (th p).line ≡ 29 → (th p).succ ≢ 0
      → Shape (m ⟦locked≔ upd m.locked (th p).succ 0 ⟧ ⟦low≔ m.low + 1 ⟧) (upd th p (th p ⟦line≔ 11 ⟧))
  keeps29_unlocks e some =
      let o = here i p 29 e in
      let behind = behind_29 i p e some in
      let r : ℕ = behind.0 in
      let succeeds = behind.1 in
      let place = i.places.place r (omega arith) in
      leaves m.flag (upd m.locked (th p).succ 0) e
      (record {
        flag_range = i.shared.flag_range;
        flag_empty = omega arith;
        tail_empty = λ h. absurd (omega arith);
        locked_range = store_range (th p).succ 0 (omega arith);
      })
      (by r
      (λ x h. rw succeeds.spins (omega (arith, upd_at m.locked (th p).succ 0 (th r).my succeeds.node)))
      (λ q d x h. absurd (d (one_place i.places q r x (omega arith) (omega arith)))))
      (λ q n owner. upd_other m.locked (th p).succ 0 (th q).my (λ h.
      let same = one_owner i.nodes q r owner (omega arith) (omega arith) in
      n (rw same (omega arith)) (rw same succeeds.place)))

  -- .. with none, whoever is behind p waits for the flag.
  pub keeps29_raises : (th p).line ≡ 29 → (th p).succ ≡ 0 → Shape (m ⟦flag≔ 1 ⟧ ⟦low≔ m.low + 1 ⟧) (upd th p (th p ⟦line≔ 11 ⟧))
  keeps29_raises e none =
      let o = here i p 29 e in
      let closed : m.low + 1 ≡ m.high → ¬ (1 ≤ m.tail) = λ h t.
      omega (arith, (i.links.last p (omega arith) (omega arith)).opened (omega arith)) in
      leaves 1 m.locked e
      (record {
        flag_range = omega arith;
        flag_empty = omega arith;
        tail_empty = λ h. omega (arith, closed h);
        locked_range = i.shared.locked_range;
      })
      (λ q x h.
      let still_locked = (i.own q).turn.still_locked in
      let l = behind_29_none i p e none q x h in
      rw l (omega (arith, get still_locked (omega arith))))
      (λ q n x. refl)
