-- The chain: one link, what holds at each place of it, that it is as document 01 says and that no second list is, and how it is written. By induction
-- on the number of nodes that are left; what is said of places is one law (`by_place`). Rests on Answer. Assumes nothing.
use Rattle.std.proofs.Math.Bool.{cond, false, true, ◌||◌}
use mathlib.Core.List.{List, [], ◌∷◌, ◌++◌, append-nil}
use Rattle.std.specs.Prelude.{◌≢◌, ◌⊎◌, ◌≡◌, drop, eqb, set, take}
use Rattle.std.proofs.Math.Logic.{by_cases, inl, inr}
use Rattle.std.proofs.Common.{⊎_elim, ◌∙◌, ext_get_or, eq-eqb, ne_eqb}
use Rattle.std.proofs.Math.Path.{ap, refl, sym}
use Prim.Native.Nat.{ℕ, zero, suc, ◌-◌, ◌≤◌, ◌<◌}
use Rattle.std.proofs.Math.Dec.{eqb-suc-zero}
use Rattle.std.proofs.Math.Decide.{ℕ_discrete}
use native.Mathlib.Omega.{arith}
use Rattle.std.proofs.lemmas.Bool.{eqb-false}
use Rattle.std.proofs.Math.ListN.{get_or, length}
use Rattle.std.proofs.Math.Seq.{drop-length, take-length}
use Rattle.lock.specs.State.{◌⟨shared≔◌⟩, ◌⟨used≔◌⟩}
use Rattle.lock.specs.Valid.{Between, Valid}
use Rattle.lock.specs.declared.State.{State}
use Rattle.number.specs.Numbers.{is_bottom, node}
use Rattle.number.specs.Refused.{done}
use Rattle.number.specs.Tests.{neither_holds}
use Rattle.number.specs.declared.NodeNo.{NodeNo}
use Rattle.rows.specs.Rows.{over}
use Rattle.ask.specs.Ask.{answered, chain, chain_bytes, chain_from, next}
use Rattle.ask.specs.Meaning.{ChainOf}
use Rattle.ask.specs.Proof.Answer.{chain_accepted, enough}

module _ (s : State) where
  -- ---- one link

  -- Where no node is left, and from 0, the chain is empty.
  pub ends_here : (left : ℕ) (k : NodeNo) → (eqb left 0 || is_bottom k) ≡ true → chain_from left s k ≡ []
  unfolding chain_from
  ends_here zero k h = refl
  ends_here (suc left) k h = let e : is_bottom k ≡ true = rw eqb-suc-zero at h in rw e

  -- Elsewhere some are left, and k is not 0.
  pub not_here : {left : ℕ} {k : NodeNo} → (eqb left 0 || is_bottom k) ≡ false → (left ≢ 0) × (k.0 ≢ 0)
  not_here h = let neither = neither_holds _ _ h in (eqb-false _ _ neither.0, eqb-false _ _ neither.1)

  -- Otherwise node k stands first, and the chain goes on from its next.
  pub goes_on_lem : (left : ℕ) (k : NodeNo) → left ≢ 0 → k.0 ≢ 0 → chain_from left s k ≡ k.0 ∷ chain_from (left - 1) s (next s k)
  unfolding chain_from
  goes_on_lem zero k h n = absurd (h refl)
  goes_on_lem (suc left) k h n = let e : suc left - 1 ≡ left = omega arith in rw (ne_eqb k.0 0 n, e)

  -- what holds of the empty list, where k is 0, and of k in front of the chain of its next, where it is not, holds of the chain of one node more
  one_more : (P : List ℕ → Type 0) (left : ℕ) (k : NodeNo) → (k.0 ≡ 0 → P []) → (k.0 ≢ 0 → P (k.0 ∷ chain_from left s (next s k)))
      → P (chain_from (suc left) s k)
  unfolding chain_from
  one_more P left k ends on =
      by_cases (ℕ_discrete k.0 0) (λ z. rw (eq-eqb k.0 0 z) (ends z)) (λ n. rw (ne_eqb k.0 0 n) (on n))

  -- The chain has at most as many numbers as nodes are left.
  pub chain_short : (left : ℕ) (k : NodeNo) → length (chain_from left s k) ≤ left
  unfolding chain_from
  chain_short zero k = omega arith
  chain_short (suc left) k = one_more (λ l. length l ≤ suc left) left k (λ z. omega arith) (λ n. omega (arith, chain_short left (next s k)))

  -- ---- the places of the chain, counted from 0

  -- a chain that is not empty begins with its node
  starts_with : (left : ℕ) (k : NodeNo) → 0 < length (chain_from left s k) → get_or (chain_from left s k) 0 0 ≡ k.0
  unfolding chain_from
  starts_with zero k = λ h. absurd (omega arith)
  starts_with (suc left) k = one_more (λ l. 0 < length l → get_or l 0 0 ≡ k.0) left k (λ z h. sym z) (λ n h. refl)

  -- an empty chain starts at 0, or has no node left
  empty_when : (left : ℕ) (k : NodeNo) → length (chain_from left s k) ≡ 0 → (k.0 ≡ 0) ⊎ (left ≡ 0)
  unfolding chain_from
  empty_when zero k = λ h. inr refl
  empty_when (suc left) k = one_more (λ l. length l ≡ 0 → (k.0 ≡ 0) ⊎ (suc left ≡ 0)) left k (λ z h. inl z) (λ n h. absurd (omega arith))

  -- what holds at the first place, and goes on from a place of the chain of next to the place behind it, holds at each place
  by_place : (P : ℕ → NodeNo → List ℕ → ℕ → Type 0)
      → ((left : ℕ) (k : NodeNo) → k.0 ≢ 0 → P (suc left) k (k.0 ∷ chain_from left s (next s k)) 0)
      → ((left : ℕ) (k : NodeNo) (i : ℕ) → k.0 ≢ 0 → P left (next s k) (chain_from left s (next s k)) i
      → P (suc left) k (k.0 ∷ chain_from left s (next s k)) (suc i))
      → (left : ℕ) (k : NodeNo) (i : ℕ) → i < length (chain_from left s k) → P left k (chain_from left s k) i
  unfolding chain_from
  by_place P first further zero k i = λ h. absurd (omega arith)
  by_place P first further (suc left) k zero = one_more (λ l. 0 < length l → P (suc left) k l 0) left k (λ z h. absurd (omega arith)) (λ n h. first left k n)
  by_place P first further (suc left) k (suc i) =
      one_more (λ l. suc i < length l → P (suc left) k l (suc i)) left k
      (λ z h. absurd (omega arith))
      (λ n h. further left k i n (by_place P first further left (next s k) i (omega arith)))

  -- no number is 0
  no_bottom : (left : ℕ) (k : NodeNo) (i : ℕ) → let l = chain_from left s k in i < length l → get_or l i 0 ≢ 0
  no_bottom = by_place (λ left k l i. get_or l i 0 ≢ 0) (λ left k n. n) (λ left k i n there. there)

  -- each number is the next of the one before it
  links : (left : ℕ) (k : NodeNo) (i : ℕ) → let l = chain_from left s k in i < length l → suc i < length l → get_or l (suc i) 0 ≡ (next s (node (get_or l i 0))).0
  links =
      by_place (λ left k l i. suc i < length l → get_or l (suc i) 0 ≡ (next s (node (get_or l i 0))).0)
      (λ left k n h. starts_with left (next s k) (omega arith))
      (λ left k i n there h. there (omega arith))

  -- the next of the last number is 0, or no node is left
  ends_at : (left : ℕ) (k : NodeNo) (i : ℕ)
      → let l = chain_from left s k in i < length l → suc i ≡ length l → ((next s (node (get_or l i 0))).0 ≡ 0) ⊎ (length l ≡ left)
  ends_at =
      by_place (λ left k l i. suc i ≡ length l → ((next s (node (get_or l i 0))).0 ≡ 0) ⊎ (length l ≡ left))
      (λ left k n h. ⊎_elim inl (λ e. inr (omega arith)) (empty_when left (next s k) (omega arith)))
      (λ left k i n there h. ⊎_elim inl (λ e. inr (ap suc e)) (there (omega arith)))

  -- in a valid state no number is past K
  inside : Valid s → (left : ℕ) (k : NodeNo) (i : ℕ) → let l = chain_from left s k in i < length l → k.0 ≤ s.shared.nodes → get_or l i 0 ≤ s.shared.nodes
  inside rule =
      by_place (λ left k l i. k.0 ≤ s.shared.nodes → get_or l i 0 ≤ s.shared.nodes)
      (λ left k n h. h)
      (λ left k i n there h. there (rule.node k (omega arith) h).next)

  -- ---- the chain is as document 01 says

  -- The list of at most K nodes is a chain, from a node 1 to K.
  pub chain_is : (from : NodeNo) → Between 1 from.0 s.shared.nodes → ChainOf s from (chain_from s.shared.nodes s from)
  chain_is from b =
      let K = s.shared.nodes in
      let l = chain_from K s from in
      let first = goes_on_lem K from (omega arith) (omega arith) in
      let not-empty : 1 ≤ length l = omega (arith, ap length first) in
      record {
        begins = (chain_from (K - 1) s (next s from), first);
        links = λ i h. links K from i (omega arith) h;
        no_bottom = no_bottom K from;
        at_most = chain_short K from;
        ends = ends_at K from (length l - 1) (omega arith) (omega arith);
      }

  -- In a valid state its numbers are 1 to K.
  pub chain_entries : Valid s → (from : NodeNo) → Between 1 from.0 s.shared.nodes
      → (i : ℕ) → let l = chain_from s.shared.nodes s from in i < length l → Between 1 (get_or l i 0) s.shared.nodes
  chain_entries rule from b i h =
      let K = s.shared.nodes in
      let n = no_bottom K from i h in
      record { from = omega arith; to = inside rule K from i h b.to }

  -- The word of the nodes in use is not looked at.
  pub chain_used : (used left : ℕ) (k : NodeNo) → chain_from left (s ⟨shared≔ s.shared ⟨used≔ used ⟩ ⟩) k ≡ chain_from left s k
  unfolding chain_from
  chain_used used zero k = refl
  chain_used used (suc left) k = ap (λ l. cond (is_bottom k) [] (k.0 ∷ l)) (chain_used used left (next s k))

-- ---- no second list is a chain from the same node
module _ (s : State) (from : NodeNo) where
  -- two chains agree as far as both go
  agree : {l l' : List ℕ} → ChainOf s from l → ChainOf s from l' → (i : ℕ) → i < length l → i < length l' → get_or l i 0 ≡ get_or l' i 0
  agree c c' zero h h' = ap (λ x. get_or x 0 0) c.begins.1 ∙ sym (ap (λ x. get_or x 0 0) c'.begins.1)
  agree c c' (suc i) h h' =
      c.links i h ∙ ap (λ x. (next s (node x)).0) (agree c c' i (omega arith) (omega arith)) ∙ sym (c'.links i h')

  -- neither goes further than the other: behind the last number of the shorter one stands 0, or it has K numbers
  not_longer : {l l' : List ℕ} → ChainOf s from l → ChainOf s from l' → length l < length l' → ⊥
  not_longer {l} {l'} c c' h =
      let i = length l - 1 in
      let not-empty : 1 ≤ length l = omega (arith, ap length c.begins.1) in
      let e : suc i ≡ length l = omega arith in
      let same = agree c c' i (omega arith) (omega arith) in
      ⊎_elim
      (λ z. c'.no_bottom (suc i) (omega arith) (c'.links i (omega arith) ∙ ap (λ x. (next s (node x)).0) (sym same) ∙ z))
      (λ k. omega (arith, c'.at_most))
      c.ends

  -- Two chains from the same node are equal.
  pub chain_only : (l l' : List ℕ) → ChainOf s from l → ChainOf s from l' → l ≡ l'
  chain_only l l' c c' =
      let a = not_longer c c' in
      let b = not_longer c' c in
      ext_get_or 0 l l' (omega arith) (λ i h. agree c c' i h (omega arith))

-- ---- the answer, and how the list is written

-- A chain question that is not refused gives the chain.
pub chain_answer : (s : State) (from : NodeNo) (out list : List ℕ) → (chain s from out).number ≡ done → ChainOf s from list
    → (chain s from out ≡ answered (length list)) × (chain_bytes s from out ≡ list ++ drop (length list) out)
unfolding chain
chain_answer s from out list e c =
    rw (chain_only s from list _ c (chain_is s from (enough s from (length out) e).1)) (chain_accepted s from out e)

-- A number stored first, and a list written over what comes behind it, are the longer list written over the whole.
pub over_after : (x : ℕ) (list out : List ℕ) → 1 ≤ length out
    → let begun = set out 0 x in
    take 1 begun ++ (over list (take (length begun - 1) (drop 1 begun)) ++ drop (length begun - 1) (drop 1 begun)) ≡ over (x ∷ list) out
over_after x list [] h = absurd (omega arith)
over_after x list (b ∷ bs) h =
    let e : suc (length bs) - 1 ≡ length bs = omega arith in
    rw (e, take-length bs, drop-length bs, append-nil)
