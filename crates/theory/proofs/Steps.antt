-- Every step of Figure 1 keeps the shape of the queue, the order of the passages and the counts. By cases over the figure's lines: for each, what it stores is
-- what the line's lemma of Shape/Lines stores, the order is kept because the line exchanges (14), passes (27), leaves (29), or does none of these, and the
-- step is balanced. The steps at 15 and 21 change nothing that is seen. Rests on Shape, Look, Queue/Order, Queue/Counts and Queue/Stored. Assumes nothing.
use Rattle.std.specs.Prelude.{Bool, cond, List, ◌≢◌, ◌≡◌, ℕ, ◌+◌, eqb, length}
use Rattle.std.proofs.Math.Bool.{false, true}
use Rattle.std.proofs.Math.Path.{ap, refl, sym}
use Rattle.std.proofs.Common.{◌∙◌, arith}
use Rattle.std.proofs.Math.Nat.{add_assoc}
use borrow.Author.Tests.{eqb-false, eqb-true, ne_eqb}
use Rattle.figure.specs.Figure.{◌⟪flag≔◌⟫, ◌⟪line◌≔◌⟫, ◌⟪locked◌≔◌⟫, ◌⟪low≔◌⟫, ◌⟪tail≔◌⟫}
use Rattle.figure.specs.Figure.{Figure, entered, high, line, local, low, mess, my, next, prev, succ, tail}
use Rattle.figure.specs.Figure.Figure.{line11, line12, line13, line14, line15, line16, line17, line18, line19, line20, line21, line22, line23, line24}
use Rattle.figure.specs.Figure.Figure.{line25, line26, line27, line28, line29}
use Rattle.lock.specs.Laws.{set_twice}
use Rattle.lock.specs.State.{◌⟨entered≔◌⟩, ◌⟨flag≔◌⟩, ◌⟨high≔◌⟩, ◌⟨line≔◌⟩, ◌⟨low≔◌⟩, ◌⟨mess≔◌⟩, ◌⟨my≔◌⟩, ◌⟨nxmy≔◌⟩, ◌⟨prev≔◌⟩, ◌⟨slot≔◌⟩}
use Rattle.lock.specs.State.{◌⟨succ≔◌⟩, ◌⟨tail≔◌⟩, ◌⟨used≔◌⟩, ◌⟨locked≔◌⟩, ◌⟨next≔◌⟩, ◌⟨node◌≔◌⟩, ◌⟨shared≔◌⟩, ◌⟨thread◌≔◌⟩, node_at, nth, set_nth, thread_at}
use Rattle.lock.specs.Valid.{Between, Valid}
use Rattle.lock.specs.declared.Shared.{Shared}
use Rattle.lock.specs.declared.State.{State}
use Rattle.lock.specs.declared.Thread.{Thread}
use Rattle.number.specs.Numbers.{behind, bottom, is_bottom, same}
use Rattle.number.specs.declared.NodeNo.{NodeNo}
use Rattle.number.specs.declared.ThreadNo.{ThreadNo}
use Rattle.machine.specs.Conditions.{Follows}
use Rattle.machine.specs.Conditions.Follows.{my_at, prev_at, succ_at}
use Rattle.machine.specs.Demands.{Possible}
use Rattle.theory.specs.Demands.{exchange_line, section_line}
use Rattle.theory.specs.Proof.Look.{seen_ahead, look, one_of, onward, seen_at, threads_of}
use Rattle.theory.specs.Proof.Reached.{Kept, Tallied}
use Rattle.theory.specs.Queue.AtLines.{In}
use Rattle.theory.specs.Queue.Counts.{Balance}
use Rattle.theory.specs.Queue.Events.{noted}
use Rattle.theory.specs.Queue.Functions.{upd}
use Rattle.theory.specs.Queue.Order.{order_in, order_out, order_pass, order_stay}
use Rattle.theory.specs.Queue.Seen.{Seen, ◌⟦line≔◌⟧}
use Rattle.theory.specs.Queue.Stored.{Keeps, Of, inside, keeps_by, keeps_locked, keeps_next, keeps_plain, memory_of, memory_with, thread_there}
use Rattle.theory.specs.Queue.View.{locked_in, next_in, threads_kept, threads_in, used_not, used_put, used_taken, used_in, view}
use Rattle.theory.specs.Shape.Goes.{front}
use Rattle.theory.specs.Shape.Lines.{keeps11, keeps12, keeps13, keeps14, keeps16, keeps17, keeps18, keeps19, keeps20, keeps22_closes, keeps22_waits}
use Rattle.theory.specs.Shape.Lines.{keeps23, keeps24, keeps25, keeps26, keeps27, keeps28, keeps29_raises, keeps29_unlocks}
use Rattle.theory.specs.Queue.Memory.{Memory}
use Rattle.theory.specs.Shape.Shape.{Ordered, Shape}
use Rattle.word.specs.Laws.{in_has_bit}
use Rattle.word.specs.Word.{put_in, take_out}

-- what a step from line l to line n must do to the three numbers for the counts to be kept
abbrev Balanced : ℕ → ℕ → Shared → Shared → Type 0
Balanced l n sh sh' = Balance 12 14 29 l n sh sh'

-- a step from line l to line n by which the thread neither exchanges, nor passes, nor leaves
pub record Quiet (l n : ℕ) : Type 0 where
  pub no_exchange : l ≢ exchange_line
  pub no_passage : l ≢ section_line
  pub up_to_section : In 16 27 n → In 16 27 l
  pub past_section : In 28 29 n → In 28 29 l

module _ (base : ℕ) (s : State) (p : ThreadNo) (n : NodeNo) (rule : Valid s) (can : Possible s p n) (owner taker : ℕ → ℕ)
    (exchanged passed : List ThreadNo) (kept : Of look base (Kept exchanged passed) owner taker s) (counts : Tallied s) where
  abbrev m : Memory
  m = memory_of base s owner taker

  abbrev th : ℕ → Seen
  th = threads_of base s

  abbrev v : Thread
  v = thread_at s p

  -- the lists after the step
  abbrev exchanged' : List ThreadNo
  exchanged' = noted (eqb (line s p) exchange_line) p exchanged

  abbrev passed' : List ThreadNo
  passed' = noted (eqb (line s p) section_line) p passed

  -- what is to be shown of the state after the step
  abbrev Keeps' : State → Type 0
  Keeps' = Keeps look base (Kept exchanged' passed') 12 14 29 s p rule can.thread counts

  -- ---- what is known before it
  shape : Shape m th
  shape = kept.0

  order : Ordered th taker m.low m.high exchanged passed
  order = kept.1

  -- a followed node stands in the table
  there : (k : NodeNo) → Follows v k → Between 1 k.0 (length s.node)
  there k f = omega (arith, in_has_bit (local s) k (can.followed k f).1, rule.sized.nodes)

  -- the line at which the thread is seen
  at : (l : ℕ) → line s p ≡ l → (th p.0).line ≡ onward l (prev s p).0 (succ s p).0
  at = seen_at base s p

  -- ---- the order

  -- at a quiet line nothing is noted, and the places stay
  quiet : (l : ℕ) → line s p ≡ l → (th p.0).line ≡ l → (w : Seen) → w.slot ≡ (th p.0).slot → Quiet l w.line
      → Ordered (upd th p.0 w) taker m.low m.high exchanged' passed'
  quiet l e k w slot-stays h =
      rw (e, ne_eqb l exchange_line h.no_exchange, ne_eqb l section_line h.no_passage)
      (order_stay order p.0 w (λ x. rw k (h.up_to_section x)) (λ x. rw k (h.past_section x)) slot-stays)

  -- ---- the stores: see Queue/Stored
  module _ (l : ℕ) (e : line s p ≡ l) (owner' taker' : ℕ → ℕ) (sh : Shared) (w : Thread) (even : Balanced l w.line s.shared sh) where
    abbrev Kept' : Memory → (ℕ → Seen) → Type 0
    Kept' = Kept exchanged' passed'

    -- no node is stored ..
    plain : {used : ℕ → ℕ} {s' : State} → used_in sh.used ≡ used
        → Kept' (memory_with base sh used (next_in s.node) (locked_in s.node) owner' taker') (upd th p.0 (view look base w))
        → s' ≡ s ⟨shared≔ sh ⟩ ⟨thread p ≔ w ⟩ → Keeps' s'
    plain = keeps_plain look base Kept' 12 14 29 s p rule can.thread counts l e owner' taker' sh w even

    -- .. next of the followed node is ..
    with_next : {s' : State} (k : NodeNo) → Follows v k → (x : NodeNo)
        → Kept' (memory_with base sh (used_in sh.used) (upd (next_in s.node) k.0 x.0) (locked_in s.node) owner' taker')
        (upd th p.0 (view look base w))
        → s' ≡ s ⟨shared≔ sh ⟩ ⟨node k ≔ node_at s k ⟨next≔ x ⟩ ⟩ ⟨thread p ≔ w ⟩ → Keeps' s'
    with_next k f = keeps_next look base Kept' 12 14 29 s p rule can.thread counts l e owner' taker' sh w even k (there k f)

    -- .. or its locked
    with_locked : {s' : State} (k : NodeNo) → Follows v k → (x : ℕ)
        → Kept' (memory_with base sh (used_in sh.used) (next_in s.node) (upd (locked_in s.node) k.0 x) owner' taker')
        (upd th p.0 (view look base w))
        → s' ≡ s ⟨shared≔ sh ⟩ ⟨node k ≔ node_at s k ⟨locked≔ x ⟩ ⟩ ⟨thread p ≔ w ⟩ → Keeps' s'
    with_locked k f = keeps_locked look base Kept' 12 14 29 s p rule can.thread counts l e owner' taker' sh w even k (there k f)

  -- two variables of the thread, stored one after the other, are one store
  thread_stored : (w d : Thread) → nth (set_nth s.thread p.0 w) p.0 d ≡ w
  thread_stored = thread_there look base (Kept exchanged' passed') 12 14 29 s p rule can.thread counts

  -- ---- the lines that are not quiet, or that go two ways

  -- 15 and 21: nothing that is seen changes
  looks : (l x : ℕ) {s' : State} → line s p ≡ l → l ≢ exchange_line → l ≢ section_line
      → onward x (prev s p).0 (succ s p).0 ≡ onward l (prev s p).0 (succ s p).0
      → Balanced l x s.shared s.shared → s' ≡ s ⟪line p ≔ x ⟫ → Keeps' s'
  unfolding threads_in
  looks l x {s'} e no_exchange no_passage same_line even q =
      let same_view : view look base (v ⟨line≔ x ⟩) ≡ view look base v =
      ap (λ (k : ℕ). view look base v ⟦line≔ k ⟧) (same_line ∙ sym (seen_at base s p l e)) in
      let in_table = inside look base (Kept exchanged' passed') 12 14 29 s p rule can.thread counts in
      let seen = threads_kept look base s.thread p.0 (v ⟨line≔ x ⟩) in_table.from in_table.to same_view in
      keeps_by look base (Kept exchanged' passed') 12 14 29 s p rule can.thread counts l e owner taker s.shared (v ⟨line≔ x ⟩) even
      (s ⟪line p ≔ x ⟫) s' refl refl
      (rw (seen, e, ne_eqb l exchange_line no_exchange, ne_eqb l section_line no_passage) kept) q

  -- 14: the thread takes the next place
  exchanges : line s p ≡ 14 → (w : Seen) → In 16 18 w.line → w.slot ≡ m.high
      → Ordered (upd th p.0 w) (upd taker m.high p.0) m.low (m.high + 1) exchanged' passed'
  exchanges e w h slot_is = rw e (order_in order p.0 w (omega arith) (λ x. omega arith) shape.places.order slot_is)

  -- 27: the thread is at the front, and passes
  passes : line s p ≡ 27 → (th p.0).line ≡ 27 → Ordered (upd th p.0 (th p.0 ⟦line≔ 28 ⟧)) taker m.low m.high exchanged' passed'
  passes e k =
      let at_front = front shape p.0 (omega arith) in
      rw e (order_pass order p.0 (th p.0 ⟦line≔ 28 ⟧) shape.places (omega arith) (omega arith) (omega arith) at_front (omega arith))

  -- 29: the thread leaves the front
  leaves : line s p ≡ 29 → (th p.0).line ≡ 29 → Ordered (upd th p.0 (th p.0 ⟦line≔ 11 ⟧)) taker (m.low + 1) m.high exchanged' passed'
  leaves e k =
      rw e (order_out order p.0 (th p.0 ⟦line≔ 11 ⟧) shape.places (omega arith) (omega arith) (λ x. omega arith) (λ x. omega arith)
      (λ q x. front shape q (omega arith)))

  -- 22, by whether tail is my
  closes : (b : Bool) {s' : State} → line s p ≡ 22 → same (tail s) (my s p) ≡ b
      → s' ≡ cond b (s ⟪tail≔ bottom ⟫ ⟪line p ≔ 25 ⟫) (s ⟪line p ≔ 23 ⟫) → Keeps' s'
  unfolding threads_in
  closes true e t q =
      let k = at 22 e in
      plain 22 e owner taker (s.shared ⟨tail≔ bottom ⟩) (v ⟨line≔ 25 ⟩) (omega arith) refl
      (keeps22_closes shape p.0 k (eqb-true _ _ t), quiet 22 e k _ refl (omega arith)) q
  closes false e t q =
      let k = at 22 e in
      plain 22 e owner taker s.shared (v ⟨line≔ 23 ⟩) (omega arith) refl
      (keeps22_waits shape p.0 k (eqb-false _ _ t), quiet 22 e k _ refl (omega arith)) q

  -- 29, by whether succ is 0
  hands_on : (b : Bool) {s' : State} → line s p ≡ 29 → is_bottom (succ s p) ≡ b
      → s' ≡ cond b (s ⟪flag≔ 1 ⟫) (s ⟪locked succ s p ≔ 0 ⟫) ⟪low≔ behind (low s) ⟫ ⟪line p ≔ 11 ⟫ → Keeps' s'
  unfolding threads_in
  hands_on true e t q =
      let k = at 29 e in
      plain 29 e owner taker (s.shared ⟨flag≔ 1 ⟩ ⟨low≔ behind (low s) ⟩) (v ⟨line≔ 11 ⟩) (omega arith) refl
      (rw (← add_assoc base (low s).0 1) (keeps29_raises shape p.0 k (eqb-true _ _ t), leaves e k)) q
  hands_on false e t q =
      let k = at 29 e in
      with_locked 29 e owner taker (s.shared ⟨low≔ behind (low s) ⟩) (v ⟨line≔ 11 ⟩) (omega arith) (succ s p) (succ_at e (eqb-false _ _ t) refl) 0
      (rw (← add_assoc base (low s).0 1) (keeps29_unlocks shape p.0 k (eqb-false _ _ t), leaves e k)) q

  -- ---- every line
  pub keeps : (s' : State) → Figure p n s s' → Keeps' s'
  unfolding threads_in next_in locked_in
  keeps s' (line11 e some unused q) =
      let k = at 11 e in
      plain 11 e (upd owner n.0 p.0) taker (s.shared ⟨used≔ put_in (local s) n ⟩ ⟨entered≔ entered s + 1 ⟩) (v ⟨my≔ n ⟩ ⟨line≔ 12 ⟩) (omega arith)
      (used_put (local s) n (omega arith) (omega (arith, can.within e, rule.shared.nodes)))
      (keeps11 shape p.0 n.0 k (omega arith) (used_not (local s) n unused), quiet 11 e k _ refl (omega arith))
      (q ∙ simp (thread_stored, set_twice))
  keeps s' (line12 e q) =
      let k = at 12 e in
      with_next 12 e owner taker s.shared (v ⟨line≔ 13 ⟩) (omega arith) (my s p) (my_at (rw e tt) refl) bottom
      (keeps12 shape p.0 k, quiet 12 e k _ refl (omega arith)) q
  keeps s' (line13 e q) =
      let k = at 13 e in
      with_locked 13 e owner taker s.shared (v ⟨line≔ 14 ⟩) (omega arith) (my s p) (my_at (rw e tt) refl) 1
      (keeps13 shape p.0 k, quiet 13 e k _ refl (omega arith)) q
  keeps s' (line14 e q) =
      let k = at 14 e in
      plain 14 e owner (upd taker m.high p.0) (s.shared ⟨tail≔ my s p ⟩ ⟨high≔ behind (high s) ⟩)
      (v ⟨prev≔ tail s ⟩ ⟨slot≔ high s ⟩ ⟨line≔ 15 ⟩) (omega arith) refl
      (rw (← add_assoc base (high s).0 1)
      (keeps14 shape p.0 k, exchanges e _ (one_of (is_bottom (tail s)) (In 16 18) 16 18 (omega arith) (omega arith)) refl))
      (q ∙ simp (thread_stored, set_twice))
  keeps s' (line15 e q) =
      looks 15 _ e (omega arith) (omega arith) (seen_ahead (is_bottom (prev s p)) 16 18 (prev s p).0 (succ s p).0 refl refl)
      (one_of (is_bottom (prev s p)) (λ (x : ℕ). Balanced 15 x s.shared s.shared) 16 18 (omega arith) (omega arith)) q
  keeps s' (line16 e raised q) =
      let k = at 16 e in
      plain 16 e owner taker s.shared (v ⟨line≔ 17 ⟩) (omega arith) refl (keeps16 shape p.0 k raised, quiet 16 e k _ refl (omega arith)) q
  keeps s' (line17 e q) =
      let k = at 17 e in
      plain 17 e owner taker (s.shared ⟨flag≔ 0 ⟩) (v ⟨line≔ 20 ⟩) (omega arith) refl (keeps17 shape p.0 k, quiet 17 e k _ refl (omega arith)) q
  keeps s' (line18 e q) =
      let k = at 18 e in
      with_next 18 e owner taker s.shared (v ⟨line≔ 19 ⟩) (omega arith) (prev s p) (prev_at e refl) (my s p)
      (keeps18 shape p.0 k, quiet 18 e k _ refl (omega arith)) q
  keeps s' (line19 e unlocked q) =
      let k = at 19 e in
      plain 19 e owner taker s.shared (v ⟨line≔ 20 ⟩) (omega arith) refl (keeps19 shape p.0 k unlocked, quiet 19 e k _ refl (omega arith)) q
  keeps s' (line20 e q) =
      let k = at 20 e in
      let goes : In 22 25 (cond (is_bottom (next s (my s p))) 22 25) = one_of (is_bottom (next s (my s p))) (In 22 25) 22 25 (omega arith) (omega arith) in
      plain 20 e owner taker s.shared (v ⟨nxmy≔ next s (my s p) ⟩ ⟨succ≔ next s (my s p) ⟩ ⟨line≔ 21 ⟩) (omega arith) refl
      (keeps20 shape p.0 k, quiet 20 e k _ refl (omega arith)) (q ∙ simp (thread_stored, set_twice))
  keeps s' (line21 e q) =
      looks 21 _ e (omega arith) (omega arith) (seen_ahead (is_bottom (succ s p)) 22 25 (prev s p).0 (succ s p).0 refl refl)
      (one_of (is_bottom (succ s p)) (λ (x : ℕ). Balanced 21 x s.shared s.shared) 22 25 (omega arith) (omega arith)) q
  keeps s' (line22 e q) = closes (same (tail s) (my s p)) e refl q
  keeps s' (line23 e linked q) =
      let k = at 23 e in
      plain 23 e owner taker s.shared (v ⟨line≔ 24 ⟩) (omega arith) refl (keeps23 shape p.0 k linked, quiet 23 e k _ refl (omega arith)) q
  keeps s' (line24 e q) =
      let k = at 24 e in
      plain 24 e owner taker s.shared (v ⟨nxmy≔ next s (my s p) ⟩ ⟨succ≔ next s (my s p) ⟩ ⟨line≔ 25 ⟩) (omega arith) refl
      (keeps24 shape p.0 k, quiet 24 e k _ refl (omega arith)) (q ∙ simp (thread_stored, set_twice))
  keeps s' (line25 e q) =
      let k = at 25 e in
      plain 25 e owner taker (s.shared ⟨mess≔ succ s p ⟩) (v ⟨line≔ 26 ⟩) (omega arith) refl (keeps25 shape p.0 k, quiet 25 e k _ refl (omega arith)) q
  keeps s' (line26 e q) =
      let k = at 26 e in
      plain 26 e owner taker (s.shared ⟨used≔ take_out (local s) (my s p) ⟩) (v ⟨succ≔ bottom ⟩ ⟨line≔ 27 ⟩) (omega arith) (used_taken (local s) (my s p))
      (keeps26 shape p.0 k, quiet 26 e k _ refl (omega arith)) (q ∙ simp (thread_stored, set_twice))
  keeps s' (line27 e q) =
      let k = at 27 e in
      plain 27 e owner taker s.shared (v ⟨line≔ 28 ⟩) (omega arith) refl (keeps27 shape p.0 k, passes e k) q
  keeps s' (line28 e q) =
      let k = at 28 e in
      plain 28 e owner taker s.shared (v ⟨succ≔ mess s ⟩ ⟨line≔ 29 ⟩) (omega arith) refl
      (keeps28 shape p.0 k, quiet 28 e k _ refl (omega arith)) (q ∙ simp (thread_stored, set_twice))
  keeps s' (line29 e q) = hands_on (is_bottom (succ s p)) e refl q
