-- A state's tables, as the theory sees them: functions of a number. `look` says at which line a machine sees a thread, and `base` how many places have been
-- taken off a state's own numbers (0, unless its places were counted anew on the way). Then what a store changes of what is seen: one value, or nothing
-- at all. Assumes nothing.
use Rattle.std.specs.Prelude.{Bool, cond, false, true, List, ◌≡◌, refl, ℕ, ◌+◌, ◌≤◌, length}
use Rattle.std.proofs.Common.{ap, sym, ◌∙◌, arith}
use Rattle.std.proofs.Math.Path.{fun_ext}
use Rattle.lock.specs.Laws.{nth_set_other, nth_set_same}
use Rattle.lock.specs.State.{nth, set_nth, zero_node, zero_thread}
use Rattle.lock.specs.declared.Node.{Node}
use Rattle.lock.specs.declared.Thread.{Thread}
use Rattle.number.specs.Numbers.{node}
use Rattle.number.specs.Sizes.{most_nodes}
use Rattle.number.specs.declared.NodeNo.{NodeNo}
use Rattle.theory.specs.Queue.Functions.{by, upd, upd_other, upd_same}
use Rattle.theory.specs.Queue.Seen.{Seen}
use Rattle.word.specs.Laws.{has_bit_lem, in_none, in_put_other, in_put_same, in_take_other, in_take_same}
use Rattle.word.specs.Word.{in_use, put_in, take_out}

-- ---- what is seen

-- a thread
abbrev pub view : (Thread → ℕ) → ℕ → Thread → Seen
view look base v = record { line = look v; my = v.my.0; prev = v.prev.0; succ = v.succ.0; nxmy = v.nxmy.0; slot = base + v.slot.0 }

unfoldable pub threads_in : (Thread → ℕ) → ℕ → List Thread → ℕ → Seen
threads_in look base xs q = view look base (nth xs q zero_thread)

-- next and locked of a node
unfoldable pub next_in : List Node → ℕ → ℕ
next_in xs k = (nth xs k zero_node).next.0

unfoldable pub locked_in : List Node → ℕ → ℕ
locked_in xs k = (nth xs k zero_node).locked

-- 1 if the node is in use, and 0 if not
unfoldable pub used_in : ℕ → ℕ → ℕ
used_in w k = cond (in_use w (node k)) 1 0

-- ---- what a store changes of what f sees of a table
module _ {A B : Type 0} (f : A → B) (xs : List A) (d : A) (i : ℕ) (v : A) (from : 1 ≤ i) (to : i ≤ length xs) where
  -- one value ..
  seen_stored : ◌≡◌ {A = ℕ → B} (λ q. f (nth (set_nth xs i v) q d)) (upd (λ q. f (nth xs q d)) i (f v))
  seen_stored = fun_ext (by i
      (ap f (nth_set_same xs i v d from to) ∙ sym (upd_same (λ q. f (nth xs q d)) i (f v)))
      (λ q n. ap f (nth_set_other xs q i v d n) ∙ sym (upd_other (λ q. f (nth xs q d)) i (f v) q n)))

  -- .. and nothing where f sees no difference
  seen_kept : f v ≡ f (nth xs i d) → ◌≡◌ {A = ℕ → B} (λ q. f (nth (set_nth xs i v) q d)) (λ q. f (nth xs q d))
  seen_kept e = fun_ext (by i (ap f (nth_set_same xs i v d from to) ∙ e) (λ q n. ap f (nth_set_other xs q i v d n)))

module _ (look : Thread → ℕ) (base : ℕ) (xs : List Thread) (i : ℕ) (v : Thread) (from : 1 ≤ i) (to : i ≤ length xs) where
  pub threads_stored : threads_in look base (set_nth xs i v) ≡ upd (threads_in look base xs) i (view look base v)
  unfolding threads_in
  threads_stored = seen_stored (view look base) xs zero_thread i v from to

  pub threads_kept : view look base v ≡ view look base (nth xs i zero_thread) → threads_in look base (set_nth xs i v) ≡ threads_in look base xs
  unfolding threads_in
  threads_kept = seen_kept (view look base) xs zero_thread i v from to

module _ (xs : List Node) (i : ℕ) (v : Node) (from : 1 ≤ i) (to : i ≤ length xs) where
  pub next_stored : next_in (set_nth xs i v) ≡ upd (next_in xs) i v.next.0
  unfolding next_in
  next_stored = seen_stored (λ (x : Node). x.next.0) xs zero_node i v from to

  pub next_kept : v.next.0 ≡ (nth xs i zero_node).next.0 → next_in (set_nth xs i v) ≡ next_in xs
  unfolding next_in
  next_kept = seen_kept (λ (x : Node). x.next.0) xs zero_node i v from to

  pub locked_stored : locked_in (set_nth xs i v) ≡ upd (locked_in xs) i v.locked
  unfolding locked_in
  locked_stored = seen_stored (λ (x : Node). x.locked) xs zero_node i v from to

  pub locked_kept : v.locked ≡ (nth xs i zero_node).locked → locked_in (set_nth xs i v) ≡ locked_in xs
  unfolding locked_in
  locked_kept = seen_kept (λ (x : Node). x.locked) xs zero_node i v from to

-- ---- the word of nodes in use

-- a node in use is seen as 1 ..
pub used_is : (w : ℕ) (k : NodeNo) → in_use w k ≡ true → used_in w k.0 ≡ 1
unfolding used_in
used_is w k h = rw h

-- .. one that is not, as 0 ..
pub used_not : (w : ℕ) (k : NodeNo) → in_use w k ≡ false → used_in w k.0 ≡ 0
unfolding used_in
used_not w k h = rw h

-- .. and what is seen as 1 is in use
pub is_used : (w : ℕ) (k : NodeNo) → used_in w k.0 ≡ 1 → in_use w k ≡ true
unfolding used_in
is_used w k h = go (in_use w k) h
  where
    go : (b : Bool) → ◌≡◌ {A = ℕ} (cond b 1 0) 1 → b ≡ true
    go true e = refl
    go false e = absurd (omega arith)

-- in the word 0 none is seen in use
pub used_none : (k : ℕ) → used_in 0 k ≡ 0
used_none k = used_not 0 (node k) (in_none (node k))

-- two words agree on a node
alike : (w w' k : ℕ) → in_use w (node k) ≡ in_use w' (node k) → used_in w k ≡ used_in w' k
unfolding used_in
alike w w' k e = rw e

module _ (w : ℕ) (k : NodeNo) where
  -- a node that is put in ..
  pub used_put : 1 ≤ k.0 → k.0 ≤ most_nodes → used_in (put_in w k) ≡ upd (used_in w) k.0 1
  used_put from to = fun_ext (by k.0
      (used_is (put_in w k) k (in_put_same w k (has_bit_lem k from to)) ∙ sym (upd_same (used_in w) k.0 1))
      (λ q n. alike (put_in w k) w q (in_put_other w (node q) k n) ∙ sym (upd_other (used_in w) k.0 1 q n)))

  -- .. and one that is taken out
  pub used_taken : used_in (take_out w k) ≡ upd (used_in w) k.0 0
  used_taken = fun_ext (by k.0
      (used_not (take_out w k) k (in_take_same w k) ∙ sym (upd_same (used_in w) k.0 0))
      (λ q n. alike (take_out w k) w q (in_take_other w (node q) k n) ∙ sym (upd_other (used_in w) k.0 0 q n)))
