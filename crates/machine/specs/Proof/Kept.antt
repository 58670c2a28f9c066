-- An accepted step keeps a valid state valid, and its T and K. First one store, of a thread, of a node and of the shared numbers, where what is stored is in
-- its range; then each act, as the stores that it is made of, where the ranges are arithmetic. Assumes nothing.
use Rattle.std.specs.Prelude.{Bool, cond, List, ◌≡◌, ℕ, zero, suc, ◌≤◌, ◌<◌, ◌^◌, length}
use Rattle.std.proofs.Math.Bool.{false, true}
use Rattle.std.proofs.Math.Path.{refl}
use Rattle.std.proofs.Common.{◌∙◌, arith}
use Rattle.std.proofs.Math.Decide.{ℕ_discrete}
use borrow.Author.Tests.{ltb-false}
use Rattle.figure.specs.Figure.{◌⟪flag≔◌⟫, ◌⟪locked◌≔◌⟫, ◌⟪low≔◌⟫, ◌⟪nxmy◌≔◌⟫, ◌⟪prev◌≔◌⟫, ◌⟪tail≔◌⟫, high, local, low, my, next, tail}
use Rattle.lines.specs.Lines.{Act, line_at}
use Rattle.lines.specs.Lines.Act.{Choose, ClearNext, CloseTail, Exchange, LinkPrev, LowerFlag, PassOn, ReadNext, Release, SendMess, SetLocked, Stay}
use Rattle.lines.specs.Lines.Act.{TakeMess}
use Rattle.lines.specs.declared.Follow.{Follow}
use Rattle.lines.specs.declared.Follow.TheVariants.{My, NoNode, Prev, Succ}
use Rattle.lock.specs.Judged.{in_table}
use Rattle.lock.specs.Laws.{length_set_nth, nth_set_other, nth_set_same}
use Rattle.lock.specs.State.{◌⟨flag≔◌⟩, ◌⟨locked≔◌⟩, ◌⟨my≔◌⟩, ◌⟨nxmy≔◌⟩, ◌⟨prev≔◌⟩, ◌⟨slot≔◌⟩, ◌⟨succ≔◌⟩, ◌⟨tail≔◌⟩, ◌⟨used≔◌⟩}
use Rattle.lock.specs.State.{◌⟨node◌≔◌⟩, ◌⟨shared≔◌⟩, ◌⟨thread◌≔◌⟩, node_at, nth, set_nth, thread_at, zero_node, zero_thread}
use Rattle.lock.specs.Valid.{Between, NodeRange, SameSize, SharedRange, ThreadRange, Valid}
use Rattle.lock.specs.declared.Node.{Node}
use Rattle.lock.specs.declared.Shared.{Shared}
use Rattle.lock.specs.declared.State.{State}
use Rattle.lock.specs.declared.Thread.{Thread}
use Rattle.number.specs.Numbers.{behind, bottom, is_bottom, node, same, thread}
use Rattle.number.specs.Tests.{neither_holds}
use Rattle.number.specs.declared.NodeNo.{NodeNo}
use Rattle.number.specs.declared.ThreadNo.{ThreadNo}
use Rattle.word.specs.Laws.{put_fits, take_fits}
use Rattle.word.specs.Word.{put_in, take_out}
use Rattle.machine.specs.Acts.{followed_by, goes_first, perform}
use Rattle.machine.specs.Proof.Answer.{Accepted}
use Rattle.machine.specs.Proof.Clear.{Room, clear, room}
use Rattle.machine.specs.Proof.Table.{row_inside}
use Rattle.machine.specs.Refusals.{bad_node, counts}
use Rattle.machine.specs.Step.{after, followed}

-- ---- one store

-- a table in which one element was stored: what holds of the new element and held of all, holds of all
module _ {A : Type 0} (xs : List A) (d : A) (k : ℕ) (x : A) (P : A → Type 0) where
  all_stored : (m : ℕ) → m ≤ length xs → P x → ((j : ℕ) → 1 ≤ j → j ≤ m → P (nth xs j d)) → (j : ℕ) → 1 ≤ j → j ≤ m → P (nth (set_nth xs k x) j d)
  all_stored m size new old j a b = go (ℕ_discrete j k)
    where
      go : Dec (j ≡ k) → P (nth (set_nth xs k x) j d)
      go (yes e) = rw (e, nth_set_same xs k x d (omega arith) (omega arith)) new
      go (no e) = rw (nth_set_other xs j k x d e) (old j a b)

-- s' is valid, and of the size of s
pub record Kept (s s' : State) : Type 0 where
  pub threads : s'.shared.threads ≡ s.shared.threads
  pub nodes : s'.shared.nodes ≡ s.shared.nodes
  pub valid : Valid s'

module _ (s₀ : State) where
  abbrev K : ℕ
  K = s₀.shared.nodes

  node_range : (s : State) → Valid s → (j : ℕ) → j ≤ s.shared.nodes → NodeRange s.shared.nodes (nth s.node j zero_node)
  node_range s rule zero b = omega arith
  node_range s rule (suc j) b = rule.node (node (suc j)) (omega arith) b

  module _ {s : State} (kept : Kept s₀ s) where
    abbrev rule : Valid s
    rule = kept.valid

    node_kept : (k : NodeNo) → k.0 ≤ K → (v : Node) → (NodeRange s.shared.nodes (node_at s k) → NodeRange s.shared.nodes v) → Kept s₀ (s ⟨node k ≔ v ⟩)
    node_kept k most v range = record {
      threads = kept.threads;
      nodes = kept.nodes;
      valid = record {
        shared = rule.shared;
        node = λ j. all_stored s.node zero_node k.0 v (NodeRange s.shared.nodes) s.shared.nodes
            (omega (arith, rule.sized.nodes, rule.shared.nodes.to)) (range (node_range s rule k.0 (omega (arith, kept.nodes)))) (λ i. rule.node (node i)) j.0;
        thread = rule.thread;
        past_nodes = λ j b. nth_set_other s.node j.0 k.0 v zero_node (omega (arith, kept.nodes)) ∙ rule.past_nodes j b;
        past_threads = rule.past_threads;
        sized = record { nodes = length_set_nth s.node k.0 v ∙ rule.sized.nodes; threads = rule.sized.threads };
      };
    }

    shared_kept : (sh : Shared) → sh.threads ≡ s.shared.threads → sh.nodes ≡ s.shared.nodes → (SharedRange s.shared → SharedRange sh)
        → Kept s₀ (s ⟨shared≔ sh ⟩)
    shared_kept sh e f range = record {
      threads = e ∙ kept.threads;
      nodes = f ∙ kept.nodes;
      valid = record {
        shared = range rule.shared;
        node = rw f rule.node;
        thread = rw (e, f) rule.thread;
        past_nodes = rw f rule.past_nodes;
        past_threads = rw e rule.past_threads;
        sized = record { nodes = rule.sized.nodes; threads = rule.sized.threads };
      };
    }

    module _ (t : ThreadNo) (from : 1 ≤ t.0) (to : t.0 ≤ s₀.shared.threads) where
      its_range : ThreadRange s.shared.nodes (thread_at s t)
      its_range = rule.thread t from (omega (arith, kept.threads))

      thread_kept : (v : Thread) → (ThreadRange s.shared.nodes (thread_at s t) → ThreadRange s.shared.nodes v) → Kept s₀ (s ⟨thread t ≔ v ⟩)
      thread_kept v range = record {
        threads = kept.threads;
        nodes = kept.nodes;
        valid = record {
          shared = rule.shared;
          node = rule.node;
          thread = λ j. all_stored s.thread zero_thread t.0 v (ThreadRange s.shared.nodes) s.shared.threads
              (omega (arith, rule.sized.threads, rule.shared.threads.to)) (range its_range) (λ i. rule.thread (thread i)) j.0;
          past_nodes = rule.past_nodes;
          past_threads = λ j b. nth_set_other s.thread j.0 t.0 v zero_thread (omega (arith, kept.threads)) ∙ rule.past_threads j b;
          sized = record { nodes = rule.sized.nodes; threads = length_set_nth s.thread t.0 v ∙ rule.sized.threads };
        };
      }

-- ---- the acts
module _ (s : State) (valid : Valid s) (t : ThreadNo) (from : 1 ≤ t.0) (to : t.0 ≤ s.shared.threads) where
  start : Kept s s
  start = record { threads = refl; nodes = refl; valid = valid }

  of_thread : {s' : State} → Kept s s' → (v : Thread) → (ThreadRange s'.shared.nodes (thread_at s' t) → ThreadRange s'.shared.nodes v) → Kept s (s' ⟨thread t ≔ v ⟩)
  of_thread kept = thread_kept s kept t from to

  mine : ThreadRange s.shared.nodes (thread_at s t)
  mine = its_range s start t from to

  sh : SharedRange s.shared
  sh = valid.shared

  module _ (k : NodeNo) (most : k.0 ≤ s.shared.nodes) where
    linked : (next s k).0 ≤ s.shared.nodes
    linked = (node_range s s valid k.0 most).next

    -- what a line does, where there is room for what it counts and the node that it is given may be chosen
    perform_kept : (a : Act) (n : NodeNo) → bad_node (counts a) s.shared.nodes n ≡ false → Room (counts a) s → Kept s (perform s t k a n)
    unfolding perform
    perform_kept Choose n b r =
        let n≤K : n.0 ≤ s.shared.nodes = ltb-false _ _ (neither_holds (is_bottom n) _ b).1 in
        let fits : put_in (local s) n < 2 ^ s.shared.nodes = put_fits _ _ n sh.used n≤K in
        let chosen = of_thread start (thread_at s t ⟨my≔ n ⟩) (λ v. omega arith) in
        let used = shared_kept s chosen (s.shared ⟨used≔ put_in (local s) n ⟩) refl refl (λ h. omega arith) in
        shared_kept s used _ refl refl (λ h. omega arith)
    perform_kept ClearNext n b r = node_kept s start k most _ (λ v. omega arith)
    perform_kept SetLocked n b r = node_kept s start k most _ (λ v. omega arith)
    perform_kept Exchange n b r =
        let behind-tail = of_thread start (thread_at s t ⟨prev≔ tail s ⟩) (λ v. omega (arith, sh)) in
        let last = shared_kept s behind-tail (s.shared ⟨tail≔ my s t ⟩) refl refl (λ h. omega (arith, mine)) in
        let placed = of_thread last (thread_at (s ⟪prev t ≔ tail s ⟫) t ⟨slot≔ high s ⟩) (λ v. omega (arith, sh)) in
        shared_kept s placed _ refl refl (λ h. omega arith)
    perform_kept Stay n b r = start
    perform_kept LowerFlag n b r = shared_kept s start _ refl refl (λ h. omega arith)
    perform_kept LinkPrev n b r = node_kept s start k most _ (λ v. omega (arith, mine))
    perform_kept ReadNext n b r =
        let noted = of_thread start (thread_at s t ⟨nxmy≔ next s k ⟩) (λ v. omega (arith, linked)) in
        of_thread noted (thread_at (s ⟪nxmy t ≔ next s k ⟫) t ⟨succ≔ next s k ⟩) (λ v. omega (arith, linked))
    perform_kept CloseTail n b r = go (same (tail s) (my s t))
      where
        go : (x : Bool) → Kept s (cond x (s ⟪tail≔ bottom ⟫) s)
        go true = shared_kept s start _ refl refl (λ h. omega arith)
        go false = start
    perform_kept SendMess n b r = shared_kept s start _ refl refl (λ h. omega (arith, mine))
    perform_kept Release n b r =
        let fits : take_out (local s) k < 2 ^ s.shared.nodes = take_fits _ _ k sh.used in
        shared_kept s (of_thread start (thread_at s t ⟨succ≔ bottom ⟩) (λ v. omega arith)) _ refl refl (λ h. omega arith)
    perform_kept TakeMess n b r = of_thread start _ (λ v. omega (arith, sh))
    perform_kept PassOn n b r = go (is_bottom k)
      where
        go : (x : Bool) → Kept s (cond x (s ⟪flag≔ 1 ⟫) (s ⟪locked k ≔ 0 ⟫) ⟪low≔ behind (low s) ⟫)
        go true = shared_kept s (shared_kept s start (s.shared ⟨flag≔ 1 ⟩) refl refl (λ h. omega arith)) _ refl refl (λ h. omega arith)
        go false = shared_kept s (node_kept s start k most (node_at s k ⟨locked≔ 0 ⟩) (λ v. omega arith)) _ refl refl (λ h. omega arith)

-- one of two lines of the table
one_of : (b : Bool) (l m : ℕ) → Between 11 l 29 → Between 11 m 29 → Between 11 (cond b l m) 29
one_of true l m g o = g
one_of false l m g o = o

-- ---- an accepted step
module _ (s : State) (t : ThreadNo) (n : NodeNo) (valid : Valid s) (a : Accepted s t n) where
  abbrev v : Thread
  v = thread_at s t

  here : Between 1 t.0 s.shared.threads
  here = in_table t.0 s.shared.threads a.there

  its_thread : ThreadRange s.shared.nodes v
  its_thread = valid.thread t here.from here.to

  follow_range : (f : Follow) → (followed_by f v).0 ≤ s.shared.nodes
  follow_range NoNode = omega arith
  follow_range My = its_thread.my
  follow_range Prev = its_thread.prev
  follow_range Succ = its_thread.succ

  pub after_kept : Kept s (after v.line s t n)
  after_kept =
      let r = line_at v.line in
      let k = followed v.line s t in
      let c = clear s r k n a.clear in
      let g = row_inside v.line its_thread.line.from its_thread.line.to in
      let at = one_of (goes_first r.look s t) r.goes r.other g.0 g.1 in
      let done = perform_kept s valid t here.from here.to k (follow_range r.follow) r.act n c.node (room (counts r.act) s c.entry c.place) in
      of_thread s valid t here.from here.to done _
      (λ w. record { line = at; my = w.my; prev = w.prev; succ = w.succ; nxmy = w.nxmy; slot = w.slot })

  pub after_size : SameSize s (after v.line s t n)
  after_size = record { threads = after_kept.threads; nodes = after_kept.nodes }

  pub after_valid : Valid (after v.line s t n)
  after_valid = after_kept.valid
