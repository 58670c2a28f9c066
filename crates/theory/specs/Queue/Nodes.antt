-- Nodes in use. The threads at the lines `first` to `last` own one node each, and these are the nodes in use. For any machine: the lines are parameters. As
-- with places, `owner` gives who chose a node, and a thread is the owner of its own; so no two threads own one node. A step does nothing to them
-- (`nodes_stay`), puts one node in use (`nodes_in_lem`), or takes one out (`nodes_out`). Assumes nothing.
use Rattle.std.specs.Prelude.{◌≢◌, ◌≡◌, refl, ℕ, ◌≤◌}
use Rattle.std.proofs.Common.{sym, arith}
use Rattle.theory.specs.Queue.AtLines.{In}
use Rattle.theory.specs.Queue.Functions.{by, upd, upd_other, upd_same, updated}
use Rattle.theory.specs.Queue.Seen.{Seen}

-- thread q chose node k, which is no ⊥ and in use: `bit` is the node's bit of use, and `chooser` chose it
pub record HasNode (q k bit chooser : ℕ) : Type 0 where
  pub some : 1 ≤ k
  pub used : bit ≡ 1
  pub mine : chooser ≡ q

-- `used k` is 1 if node k is in use, and 0 if not
pub record Nodes (first last : ℕ) (th : ℕ → Seen) (used owner : ℕ → ℕ) : Type 0 where
  -- a thread at these lines owns a node, and chose it
  pub node : (q : ℕ) → In first last (th q).line → HasNode q (th q).my (used (th q).my) (owner (th q).my)
  -- who chose a node that is in use is at these lines, and owns it still: so no node stays in use that nobody will give up
  pub owned : (k q : ℕ) → owner k ≡ q → used k ≡ 1 → In first last (th q).line × ((th q).my ≡ k)

module _ {first last : ℕ} {th : ℕ → Seen} {used owner : ℕ → ℕ} (u : Nodes first last th used owner) where
  abbrev Owner : ℕ → Type 0
  Owner q = In first last (th q).line

  -- no two threads own one node
  pub one_owner : (q r : ℕ) → Owner q → Owner r → (th q).my ≡ (th r).my → q ≡ r
  one_owner q r x y e = let v = u.node q x in let w = u.node r y in cc

  -- so what is stored at the node of one is not seen at the node of another
  pub node_apart : {A : Type 0} (f : ℕ → A) (x : A) (r : ℕ) → Owner r → (q : ℕ) → q ≢ r → Owner q → upd f (th r).my x (th q).my ≡ f (th q).my
  node_apart f x r y q d z = upd_other f (th r).my x (th q).my (λ e. d (one_owner q r z y e))

  -- ---- thread p goes on, and is v then
  module _ (p : ℕ) (v : Seen) where
    -- it keeps its node, or owns none
    pub nodes_stay : (In first last v.line → Owner p) → (Owner p → In first last v.line) → v.my ≡ (th p).my → Nodes first last (upd th p v) used owner
    nodes_stay f g e = record {
      node = by p (rw (upd_same, e) (λ x. u.node p (f x))) (λ q d. rw upd_other (u.node q));
      owned = λ k. by p (rw (upd_same, e) (λ w x. let s = u.owned k p w x in (g s.0, s.1))) (λ q d. rw upd_other (u.owned k q));
    }

    -- it chooses a node that is not in use
    pub nodes_in_lem : (Owner p → ⊥) → In first last v.line → 1 ≤ v.my → used v.my ≡ 0
        → Nodes first last (upd th p v) (upd used v.my 1) (upd owner v.my p)
    nodes_in_lem f g h z = record {
      node = by p (simp updated (λ x. record { some = h; used = refl; mine = refl }))
          (λ q d. rw upd_other (λ x.
          let y = u.node q x in
          let n : (th q).my ≢ v.my = λ e. omega (arith, rw e at y.used) in
          record { some = y.some; used = rw upd_other y.used; mine = rw upd_other y.mine }));
      owned = by v.my (simp updated (λ q w x. rw (← w, upd_same) (g, refl)))
          (λ k d. simp updated (by p (λ w x. absurd (f (u.owned k p w x).0)) (λ q c w x. rw upd_other (u.owned k q w x))));
    }

    -- it gives its node up
    pub nodes_out : Owner p → (In first last v.line → ⊥) → Nodes first last (upd th p v) (upd used (th p).my 0) owner
    nodes_out f g = record {
      node = by p (rw upd_same (λ x. absurd (g x)))
          (λ q d. rw upd_other (λ x.
          let y = u.node q x in
          let n : (th q).my ≢ (th p).my = λ e. d (one_owner q p x f e) in
          record { some = y.some; used = rw upd_other y.used; mine = y.mine }));
      owned = by (th p).my (rw upd_same (λ q w x. absurd (omega arith)))
          (λ k d. rw upd_other (by p (λ w x. absurd (d (sym (u.owned k p w x).1))) (λ q c w x. rw upd_other (u.owned k q w x))));
    }
