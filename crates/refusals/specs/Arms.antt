-- What the proofs of the lines use: the line of a thread is one of the nineteen, and a followed node that does not stop the event has a record. And of an
-- event that its number stops, or that goes on: what bytes it leaves. Assumes nothing.
use Rattle.std.specs.Prelude.{Bool, cond, false, not, true, List, ◌≢◌, ◌≡◌, ℕ, ◌≤◌, eqb}
use Rattle.std.proofs.Common.{Ok, ap, subst, sym, ◌∙◌, arith, eq-eqb, ne_eqb}
use Rattle.std.proofs.lemmas.Bool.{eqb-false}
use Rattle.cells.specs.Cells.{HasNode, Held, Leaves}
use Rattle.cells.specs.Proof.Laws.{nodes_same, threads_same}
use Rattle.figure.specs.Figure.{◌⟪flag≔◌⟫, ◌⟪locked◌≔◌⟫, line}
use Rattle.lines.specs.declared.Follow.{Follow}
use Rattle.lines.specs.declared.Follow.TheVariants.{My, NoNode, Prev, Succ}
use Rattle.lines.specs.declared.Row.{Row}
use Rattle.lock.specs.State.{thread_at}
use Rattle.lock.specs.Valid.{ThreadRange}
use Rattle.lock.specs.declared.State.{State}
use Rattle.machine.specs.Acts.{followed_by}
use Rattle.machine.specs.Proof.Clear.{passed}
use Rattle.machine.specs.Refusals.{follows_empty}
use Rattle.machine.specs.Step.{stop_or}
use Rattle.number.specs.Numbers.{is_bottom}
use Rattle.number.specs.Refused.{done}
use Rattle.number.specs.declared.NodeNo.{NodeNo}
use Rattle.number.specs.declared.ThreadNo.{ThreadNo}
use Rattle.refusals.specs.Stops.{stop_by}
use Rattle.refusals.specs.Lines.{Followed, Ready, Strict, freed}

-- ---- the record of the node that thread t's line follows
module _ (b : List ℕ) (t : ThreadNo) (ready : Ready b t) where
  abbrev s : State
  s = ready.state

  range : ThreadRange s.shared.nodes (thread_at s t)
  range = ready.valid.thread t ready.has.from (omega (arith, ready.has.to, threads_same b s ready.held))

  within : (f : Follow) → (followed_by f (thread_at s t)).0 ≤ s.shared.nodes
  within NoNode = omega arith
  within My = range.my
  within Prev = range.prev
  within Succ = range.succ

  pub has_node : (f : Follow) (k : NodeNo) → k ≡ followed_by f (thread_at s t) → 1 ≤ k.0 → HasNode b k
  has_node f k is least =
      record { laid = ready.has.laid; from = least; to = omega (arith, nodes_same b s ready.held, ap (λ (j : NodeNo). j.0) is, within f) }

  -- the thread's line is one of the nineteen
  pub line_from : 11 ≤ line s t
  line_from = range.line.from

  pub line_to : line s t ≤ 29
  line_to = range.line.to

-- ---- the record of the node that a line was given to follow

-- a node that is followed whatever it is, is not 0 where nothing stops the event
pub there : (f : Follow) (s : State) (k n : NodeNo) → Strict f → (later : ℕ) → stop_by f s k n later ≡ done → 1 ≤ k.0
there f s k n strict later h =
    let r6 = passed (not (is_bottom n)) 5 _ h in
    let r9 = passed (follows_empty f k) 8 _ r6.1 in
    let z = eqb-false k.0 0 (sym (strict k) ∙ r9.0) in
    omega arith

module _ {b : List ℕ} {row : Row} {t : ThreadNo} {n k : NodeNo} (ready : Ready b t) (followed : Followed b row t n (Ok k)) where
  -- there is one, unless the node is 0 ..
  pub has_some : k.0 ≢ 0 → HasNode b k
  has_some some = has_node b t ready row.0 k (followed.node _ ready.held) (omega (arith, some))

  -- .. which it is not where the line follows it whatever it is
  pub has_followed : Strict row.0 → HasNode b k
  has_followed strict =
      let is = followed.node _ ready.held in
      has_node b t ready row.0 k is (there row.0 ready.state k n strict done (rw is (sym (followed.stop _ ready.held))))

-- ---- stop, or go on

-- what is given where `stop` is the number of the event
pub stops : {b : List ℕ} (s s' : State) {m stop : ℕ} → stop ≡ m → stop ≢ done → Held b s
    → (stop ≡ (stop_or m s s').answer) × Held b (stop_or m s s').state
stops s s' {m} {stop} e h held = let z : eqb m done ≡ false = rw (← e) (ne_eqb stop done h) in rw z (e, held)

pub goes : {b : List ℕ} (s s' : State) {m stop : ℕ} → stop ≡ m → stop ≡ done → Held b s'
    → (stop ≡ (stop_or m s s').answer) × Held b (stop_or m s s').state
goes s s' {m} {stop} e h held = let z : eqb m done ≡ true = rw (← e) (eq-eqb stop done h) in rw z (h, held)

-- ---- a node unlocked, or the flag raised, by whether there is a node
pub freed_by : {b b' : List ℕ} (k : NodeNo) {x : Bool} → is_bottom k ≡ x → Leaves b b' (λ s. cond x (s ⟪flag≔ 1 ⟫) (s ⟪locked k ≔ 0 ⟫)) → Leaves b b' (freed k)
freed_by {b} {b'} k e h = subst (λ (x : Bool). Leaves b b' (λ s. cond x (s ⟪flag≔ 1 ⟫) (s ⟪locked k ≔ 0 ⟫))) (sym e) h
