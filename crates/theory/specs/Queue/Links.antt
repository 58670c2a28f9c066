-- Neighbours in the queue. What is said of a thread and the one before it (`Link`), and of the last one (`Last`), differs from machine to machine and is a
-- parameter; so are the lines of the queue, a to b, and the lines at which a thread owns its node, c to d. `Link v w n` speaks of a thread v, the thread w
-- before it, and next of w's node; `Last v tail n` of the last thread, the tail, and next of its node. What a step has to show about neighbours is listed
-- once (`links`), and then what is left of it for a thread that is out of the queue (`links_out`), that takes the next place (`links_exchange`) and that
-- tells the thread before it (`links_tell`). Assumes nothing.
use Rattle.std.specs.Prelude.{◌≢◌, ◌≡◌, ℕ, ◌+◌}
use Rattle.std.proofs.Common.{ap, sym, ◌∙◌, arith}
use Rattle.theory.specs.Queue.AtLines.{In}
use Rattle.theory.specs.Queue.Functions.{by, upd, upd_at, upd_other, upd_same, updated}
use Rattle.theory.specs.Queue.Nodes.{Nodes, one_owner}
use Rattle.theory.specs.Queue.Places.{Places, one_place}
use Rattle.theory.specs.Queue.Seen.{Seen, ◌⟦line≔◌⟧}

pub record Links (a b : ℕ) (Link : Seen → Seen → ℕ → Type 0) (Last : Seen → ℕ → ℕ → Type 0) (th : ℕ → Seen) (next : ℕ → ℕ) (tail high : ℕ) : Type 0 where
  pub link : (q r : ℕ) → In a b (th r).line → (th q).slot ≡ (th r).slot + 1 → Link (th q) (th r) (next (th r).my)
  pub last : (q : ℕ) → In a b (th q).line → (th q).slot + 1 ≡ high → Last (th q) tail (next (th q).my)

module _ {a b : ℕ} {Link : Seen → Seen → ℕ → Type 0} {Last : Seen → ℕ → ℕ → Type 0} (th : ℕ → Seen) {next : ℕ → ℕ} {tail high : ℕ} (p : ℕ) (v : Seen) where
  -- what a step of p to v has to show: p and the thread before it, the thread behind p and p, any other two, p as the last, and any other as the last
  pub links : ((r : ℕ) → r ≢ p → In a b (th r).line → v.slot ≡ (th r).slot + 1 → Link v (th r) (next (th r).my))
      → ((q : ℕ) → q ≢ p → In a b v.line → (th q).slot ≡ v.slot + 1 → Link (th q) v (next v.my))
      → ((q r : ℕ) → q ≢ p → r ≢ p → In a b (th r).line → (th q).slot ≡ (th r).slot + 1 → Link (th q) (th r) (next (th r).my))
      → (In a b v.line → v.slot + 1 ≡ high → Last v tail (next v.my))
      → ((q : ℕ) → q ≢ p → In a b (th q).line → (th q).slot + 1 ≡ high → Last (th q) tail (next (th q).my))
      → Links a b Link Last (upd th p v) next tail high
  links back fore rest mine last = record {
    link = by p (by p (rw upd_same (λ x e. absurd (omega arith))) (λ r c. simp updated (back r c)))
        (λ q d. by p (simp updated (fore q d)) (λ r c. simp updated (rest q r d c)));
    last = by p (rw upd_same mine) (λ q d. rw upd_other (last q d));
  }

  -- p is out of the queue after the step, and what is said of the others' nodes still is so
  pub links_out : {next' : ℕ → ℕ} → Links a b Link Last th next tail high → (In a b v.line → ⊥) → ((w : Seen) (n : ℕ) → Link v w n)
      → ((r : ℕ) → r ≢ p → (q : ℕ) → Link (th q) (th r) (next (th r).my) → Link (th q) (th r) (next' (th r).my))
      → ((r : ℕ) → r ≢ p → Last (th r) tail (next (th r).my) → Last (th r) tail (next' (th r).my))
      → Links a b Link Last (upd th p v) next' tail high
  links_out l f g h k = record {
    link = by p (by p (rw upd_same (λ x e. absurd (omega arith))) (λ r c. simp updated (λ x e. g _ _)))
        (λ q d. by p (simp updated (λ x. absurd (f x))) (λ r c. simp updated (λ x e. h r c q (l.link q r x e))));
    last = by p (rw upd_same (λ x. absurd (f x))) (λ q d. rw upd_other (λ x e. k q d (l.last q x e)));
  }

-- What a machine's own `Link` and `Last` have to allow: nothing is said of a thread that is out of the queue, nor of next of a thread that owns no node.
pub record Facts (a b c d : ℕ) (Link : Seen → Seen → ℕ → Type 0) (Last : Seen → ℕ → ℕ → Type 0) : Type 0 where
  pub out_of_queue : (v w : Seen) (n : ℕ) → (In a b v.line → ⊥) → Link v w n
  pub link_next : (v w : Seen) (n n' : ℕ) → (In a b v.line → In c d w.line → n' ≡ n) → Link v w n → Link v w n'
  pub last_next : (v : Seen) (t n n' : ℕ) → (In c d v.line → n' ≡ n) → Last v t n → Last v t n'

module _ {a b c d : ℕ} {Link : Seen → Seen → ℕ → Type 0} {Last : Seen → ℕ → ℕ → Type 0} (facts : Facts a b c d Link Last)
    {th : ℕ → Seen} {taker used owner next : ℕ → ℕ} {low high tail : ℕ}
    (u : Places a b th taker low high) (n : Nodes c d th used owner) (l : Links a b Link Last th next tail high) (p : ℕ) where
  -- p takes the next place, behind the last; its node is the tail then
  pub links_exchange : (v : Seen) → v.slot ≡ high
      → ((r : ℕ) → In a b (th r).line → Last (th r) tail (next (th r).my) → Link v (th r) (next (th r).my))
      → Last v v.my (next v.my) → Links a b Link Last (upd th p v) next v.my (high + 1)
  links_exchange v e back mine =
      links th p v
      (λ r z x h. back r x (l.last r x (omega arith)))
      (λ q z x h. facts.out_of_queue _ _ _ (λ y. omega (arith, u.place q y)))
      (λ q r z w. l.link q r)
      (λ x h. mine)
      (λ q z x h. absurd (omega (arith, u.place q x)))

  -- p, going to line k, tells r, the thread before it, who is behind it: it stores my in next of prev, which is r's node
  module _ (k r : ℕ) (r-queued : In a b (th r).line) (r-owner : In c d (th r).line) (p-queued : In a b (th p).line) (p-owner : In c d (th p).line)
      (behind : (th p).slot ≡ (th r).slot + 1) (prev-is : (th p).prev ≡ (th r).my) where
    -- of every thread but r, next of its node is as it was
    pub tell_far : (q : ℕ) → q ≢ r → In c d (th q).line → upd next (th p).prev (th p).my (th q).my ≡ next (th q).my
    tell_far q m y = upd_other _ _ _ _ (λ w. m (one_owner n q r y r-owner (w ∙ prev-is)))

    pub links_tell : Link (th p ⟦line≔ k ⟧) (th r) (th p).my
        → ((q : ℕ) → Link (th q) (th p) (next (th p).my) → Link (th q) (th p ⟦line≔ k ⟧) (next (th p).my))
        → (Last (th p) tail (next (th p).my) → Last (th p ⟦line≔ k ⟧) tail (next (th p).my))
        → Links a b Link Last (upd th p (th p ⟦line≔ k ⟧)) (upd next (th p).prev (th p).my) tail high
    links_tell back fore last =
        links th p (th p ⟦line≔ k ⟧)
        (by r (λ d x w. rw (upd_at next (th p).prev (th p).my (th r).my (sym prev-is)) back)
        (λ s m d x w. absurd (m (one_place u s r x r-queued (omega arith)))))
        (λ q d x w. facts.link_next _ _ _ _ (λ _ _. tell_far p off p-owner) (fore q (l.link q p p-queued w)))
        (λ q s d m x w.
        facts.link_next _ _ _ _
        (λ y z. tell_far s (λ t. d (one_place u q p y p-queued (w ∙ ap (λ t. (th t).slot + 1) t ∙ sym behind))) z)
        (l.link q s x w))
        (λ x w. facts.last_next _ _ _ _ (λ _. tell_far p off p-owner) (last (l.last p p-queued w)))
        (λ q d x w.
        facts.last_next _ _ _ _
        (λ y. tell_far q (λ t. absurd (omega (arith, u.place p p-queued, ap (λ t. (th t).slot) t))) y)
        (l.last q x w))
      where
        off : p ≢ r
        off w = omega (arith, ap (λ t. (th t).slot) w)
