-- Nothing else changes in a step: each act stores one thread, and the node that its line follows. Assumes nothing.
use Rattle.std.specs.Prelude.{Bool, cond, false, true, ◌≢◌, ◌≡◌, refl}
use Rattle.std.proofs.Math.Logic.{by_cases}
use Rattle.std.proofs.Common.{ap, subst, sym, ◌∙◌}
use Rattle.std.proofs.Math.Decide.{ℕ_discrete}
use Rattle.figure.specs.Figure.{◌⟪flag≔◌⟫, ◌⟪locked◌≔◌⟫, ◌⟪nxmy◌≔◌⟫, ◌⟪prev◌≔◌⟫, ◌⟪tail≔◌⟫, line, my, next, tail}
use Rattle.lines.specs.Lines.{Act, line_at}
use Rattle.lines.specs.Lines.Act.{Choose, ClearNext, CloseTail, Exchange, LinkPrev, LowerFlag, PassOn, ReadNext, Release, SendMess, SetLocked, Stay}
use Rattle.lines.specs.Lines.Act.{TakeMess}
use Rattle.lock.specs.Judged.{in_table}
use Rattle.lock.specs.Laws.{nth_set_other}
use Rattle.lock.specs.State.{◌⟨node◌≔◌⟩, ◌⟨thread◌≔◌⟩, node_at, thread_at, zero_node, zero_thread}
use Rattle.lock.specs.Valid.{Valid}
use Rattle.lock.specs.declared.Node.{Node}
use Rattle.lock.specs.declared.State.{State}
use Rattle.lock.specs.declared.Thread.{Thread}
use Rattle.number.specs.Numbers.{bottom, is_bottom, same}
use Rattle.number.specs.Refused.{done}
use Rattle.number.specs.declared.NodeNo.{NodeNo}
use Rattle.number.specs.declared.ThreadNo.{ThreadNo}
use Rattle.machine.specs.Acts.{perform}
use Rattle.machine.specs.Conditions.{Follows}
use Rattle.machine.specs.Proof.Answer.{Accepted, accepted, executes, unchanged}
use Rattle.machine.specs.Proof.Judges.{follows}
use Rattle.machine.specs.Proof.Table.{row_agrees}
use Rattle.machine.specs.Step.{after, followed, step}
use Rattle.machine.specs.Stepped.{Stepped}

-- ---- an act
module _ (s : State) (t : ThreadNo) (k : NodeNo) where
  -- another thread
  other_thread : (q : ThreadNo) → q.0 ≢ t.0 → (a : Act) (n : NodeNo) → thread_at (perform s t k a n) q ≡ thread_at s q
  unfolding perform
  other_thread q h = go
    where
      apart : (s' : State) (v : Thread) → thread_at (s' ⟨thread t ≔ v ⟩) q ≡ thread_at s' q
      apart s' v = nth_set_other s'.thread q.0 t.0 v zero_thread h

      passed : (x : Bool) → thread_at (cond x (s ⟪flag≔ 1 ⟫) (s ⟪locked k ≔ 0 ⟫)) q ≡ thread_at s q
      passed true = refl
      passed false = refl

      closed : (x : Bool) → thread_at (cond x (s ⟪tail≔ bottom ⟫) s) q ≡ thread_at s q
      closed true = refl
      closed false = refl

      go : (a : Act) (n : NodeNo) → thread_at (perform s t k a n) q ≡ thread_at s q
      go Choose n = apart s _
      go ClearNext n = refl
      go SetLocked n = refl
      go Exchange n = apart (s ⟪prev t ≔ tail s ⟫) _ ∙ apart s _
      go Stay n = refl
      go LowerFlag n = refl
      go LinkPrev n = refl
      go ReadNext n = apart (s ⟪nxmy t ≔ next s k ⟫) _ ∙ apart s _
      go CloseTail n = closed (same (tail s) (my s t))
      go SendMess n = refl
      go Release n = apart s _
      go TakeMess n = apart s _
      go PassOn n = passed (is_bottom k)

  -- another node
  other_node : (j : NodeNo) → j.0 ≢ k.0 → (a : Act) (n : NodeNo) → node_at (perform s t k a n) j ≡ node_at s j
  unfolding perform
  other_node j h = go
    where
      apart : (v : Node) → node_at (s ⟨node k ≔ v ⟩) j ≡ node_at s j
      apart v = nth_set_other s.node j.0 k.0 v zero_node h

      passed : (x : Bool) → node_at (cond x (s ⟪flag≔ 1 ⟫) (s ⟪locked k ≔ 0 ⟫)) j ≡ node_at s j
      passed true = refl
      passed false = apart _

      closed : (x : Bool) → node_at (cond x (s ⟪tail≔ bottom ⟫) s) j ≡ node_at s j
      closed true = refl
      closed false = refl

      go : (a : Act) (n : NodeNo) → node_at (perform s t k a n) j ≡ node_at s j
      go Choose n = refl
      go ClearNext n = apart _
      go SetLocked n = apart _
      go Exchange n = refl
      go Stay n = refl
      go LowerFlag n = refl
      go LinkPrev n = apart _
      go ReadNext n = refl
      go CloseTail n = closed (same (tail s) (my s t))
      go SendMess n = refl
      go Release n = refl
      go TakeMess n = refl
      go PassOn n = passed (is_bottom k)

-- two node numbers that name the same node
same_node : {j k : NodeNo} → k.0 ≡ j.0 → j ≡ k
same_node {j} {k} e = λ i. record { 0 = sym e i }

-- what is so of the state after the line, and of the state itself, is so of the state after the event
either_way : (s : State) (t : ThreadNo) (n : NodeNo) (P : State → Type 0) → (Accepted s t n → P (after (line s t) s t n)) → P s → P (step s t n).state
either_way s t n P moved same = go (ℕ_discrete (step s t n).answer done)
  where
    go : Dec ((step s t n).answer ≡ done) → P (step s t n).state
    go (yes h) = let a = accepted s t n h in rw (ap (λ (r : Stepped). r.state) (executes s t n a)) (moved a)
    go (no h) = rw (unchanged s t n h) same

pub others_stay : (s : State) (t : ThreadNo) (n : NodeNo) (q : ThreadNo) → q.0 ≢ t.0 → thread_at (step s t n).state q ≡ thread_at s q
others_stay s t n q h =
    either_way s t n (λ (s' : State). thread_at s' q ≡ thread_at s q)
    (λ a. nth_set_other _ q.0 t.0 _ zero_thread h ∙ other_thread s t (followed (line s t) s t) q h (line_at (line s t)).act n) refl

module _ (s : State) (t : ThreadNo) (n : NodeNo) (rule : Valid s) (k : NodeNo) (apart : ¬ Follows (thread_at s t) k) where
  -- a number at which nothing is followed is 0, or is not that of the node which the row names
  elsewhere : Accepted s t n → k.0 ≡ (followed (line s t) s t).0 → k.0 ≡ 0
  elsewhere a e = by_cases (ℕ_discrete k.0 0) (λ z. z) (λ z.
      let v = thread_at s t in
      let b = in_table t.0 s.shared.threads a.there in
      let l = (rule.thread t b.from b.to).line in
      let f = follows v (line_at v.line).follow (row_agrees v.line l.from l.to).1 (λ q. z (e ∙ q)) in
      absurd (apart (subst (Follows v) (same_node e) f)))

  pub nodes_stay : node_at (step s t n).state k ≡ node_at s k
  nodes_stay =
      either_way s t n (λ (s' : State). node_at s' k ≡ node_at s k) (λ a. stays a (ℕ_discrete k.0 (followed (line s t) s t).0)) refl
    where
      stays : Accepted s t n → Dec (k.0 ≡ (followed (line s t) s t).0) → node_at (after (line s t) s t n) k ≡ node_at s k
      stays a (yes e) = rw (elsewhere a e)
      stays a (no h) = other_node s t (followed (line s t) s t) k h (line_at (line s t)).act n
