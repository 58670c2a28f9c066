-- Places in a queue. The threads at the lines `first` to `last` have one place each, and the places are those from low to high - 1. For any machine: the lines
-- are parameters. That two threads never have one place is not said pair by pair: `taker` gives who took a place, and a thread is the taker of its own.
-- A step does one of three things to the queue: nothing (`places_stay`), one more at its end (`places_in`), or one less at its front (`places_out`). Places are
-- counted over the whole history, so a rebasing of a state's numbers changes nothing here. Assumes nothing.
use Rattle.std.specs.Prelude.{◌≢◌, ◌≡◌, refl, ℕ, ◌+◌, ◌-◌, ◌≤◌, ◌<◌}
use Rattle.std.proofs.Math.Decide.{dec_le, ℕ_discrete}
use Rattle.std.proofs.Common.{arith}
use Rattle.theory.specs.Queue.AtLines.{In}
use Rattle.theory.specs.Queue.Functions.{by, upd, upd_other, upd_same}
use Rattle.theory.specs.Queue.Seen.{Seen}

-- place k, which `taker` took, is one of those from low to high - 1, and it is thread q that took it
pub record HasPlace (q k low high taker : ℕ) : Type 0 where
  pub from : low ≤ k
  pub to : k < high
  pub mine : taker ≡ q

pub record Places (first last : ℕ) (th : ℕ → Seen) (taker : ℕ → ℕ) (low high : ℕ) : Type 0 where
  pub order : low ≤ high
  -- a thread in the queue has a place, and took it
  pub place : (q : ℕ) → In first last (th q).line → HasPlace q (th q).slot low high (taker (th q).slot)
  -- who took a place from low to high - 1 is in the queue, and has it still
  pub held : (k q : ℕ) → taker k ≡ q → low ≤ k → k < high → In first last (th q).line × ((th q).slot ≡ k)

module _ {first last : ℕ} {th : ℕ → Seen} {taker : ℕ → ℕ} {low high : ℕ} (u : Places first last th taker low high) where
  abbrev Queued : ℕ → Type 0
  Queued q = In first last (th q).line

  -- no two threads have one place
  pub one_place : (q r : ℕ) → Queued q → Queued r → (th q).slot ≡ (th r).slot → q ≡ r
  one_place q r x y e = let v = u.place q x in let w = u.place r y in cc

  -- a thread that is not at the front has one before it
  pub before : (q : ℕ) → Queued q → low < (th q).slot → (r : ℕ) × Queued r × ((th q).slot ≡ (th r).slot + 1)
  before q x h =
      let v = u.place q x in
      let y = u.held ((th q).slot - 1) _ refl (omega arith) (omega arith) in
      (taker ((th q).slot - 1), y.0, omega arith)

  -- each place from low to high - 1 is somebody's ..
  pub holder : (k : ℕ) → low ≤ k → k < high → (q : ℕ) × Queued q × ((th q).slot ≡ k)
  holder k from to = let x = u.held k (taker k) refl from to in (taker k, x.0, x.1)

  -- .. so where the queue is not empty, somebody is the last
  pub last_one : low ≢ high → (q : ℕ) × Queued q × ((th q).slot + 1 ≡ high)
  last_one h =
      let order = u.order in
      let q = holder (high - 1) (omega arith) (omega arith) in
      (q.0, q.1, omega arith)

  -- thread q has place k, or it has not
  pub at_place : {X : Type 0} (q k : ℕ) → (Queued q → (th q).slot ≡ k → X) → ((Queued q → (th q).slot ≢ k) → X) → X
  at_place {X} q k there elsewhere = go (ℕ_discrete (th q).slot k) (dec_le first (th q).line) (dec_le (th q).line last)
    where
      go : Dec ((th q).slot ≡ k) → Dec (first ≤ (th q).line) → Dec ((th q).line ≤ last) → X
      go (yes s) (yes a) (yes b) = there (a, b) s
      go (yes s) (yes a) (no b) = elsewhere (λ x. absurd (b x.1))
      go (yes s) (no a) b = elsewhere (λ x. absurd (a x.0))
      go (no s) a b = elsewhere (λ _. s)

  -- where p is at the front, no other thread is
  pub behind_front : (p : ℕ) → (th p).slot ≡ low → Queued p → (q : ℕ) → q ≢ p → Queued q → low < (th q).slot
  behind_front p e x q d y = let f : (th q).slot ≢ (th p).slot = λ z. d (one_place q p y x z) in omega (arith, u.place q y)

  -- ---- thread p goes on, and is v then
  module _ (p : ℕ) (v : Seen) where
    -- it stays in the queue at its place, or out of it
    pub places_stay : (In first last v.line → Queued p) → (Queued p → In first last v.line) → v.slot ≡ (th p).slot
        → Places first last (upd th p v) taker low high
    places_stay f g e = record {
      order = u.order;
      place = by p (rw (upd_same, e) (λ x. u.place p (f x))) (λ q d. rw upd_other (u.place q));
      held = λ k. by p (rw (upd_same, e) (λ w x y. let s = u.held k p w x y in (g s.0, s.1))) (λ q d. rw upd_other (u.held k q));
    }

    -- it takes the next place
    pub places_in : (Queued p → ⊥) → In first last v.line → v.slot ≡ high → Places first last (upd th p v) (upd taker high p) low (high + 1)
    places_in f g e = record {
      order = omega (arith, u.order);
      place = by p (rw (upd_same, e, upd_same) (λ x. record { from = u.order; to = omega arith; mine = refl }))
          (λ q d. rw upd_other (λ x.
          let y = u.place q x in
          let n : (th q).slot ≢ high = omega arith in
          record { from = y.from; to = omega arith; mine = rw upd_other y.mine }));
      held = by high (rw upd_same (λ q w x y. rw (← w, upd_same) (g, e)))
          (λ k n. rw upd_other (by p (λ w x y. absurd (f (u.held k p w x (omega arith)).0))
          (λ q d w x y. rw upd_other (u.held k q w x (omega arith)))));
    }

    -- it was at the front, and leaves
    pub places_out : Queued p → (th p).slot ≡ low → (In first last v.line → ⊥) → Places first last (upd th p v) taker (low + 1) high
    places_out f e g = record {
      order = omega (arith, u.place p f);
      place = by p (rw upd_same (λ x. absurd (g x)))
          (λ q d. rw upd_other (λ x.
          let y = u.place q x in
          record { from = omega (arith, behind_front p e f q d x); to = y.to; mine = y.mine }));
      held = λ k. by p (λ w x y. absurd (omega (arith, u.held k p w (omega arith) y)))
          (λ q d w x y. rw upd_other (u.held k q w (omega arith) y));
    }
