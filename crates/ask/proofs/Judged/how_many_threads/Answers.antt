-- `ask::Judged::how_many_threads` meets its contract: a turn of the loop counts one thread more. Rests on Count. Assumes nothing.
use Rattle.std.proofs.Common.{Bool, false, true, ℕ, ◌≡◌, ◌+◌, ◌-◌, ◌≤◌, ap, arith, cond, of_calls, refl, ◌∙◌}
use mir.Val.{bool_byte}
use Rattle.cells.specs.Proof.Laws.{threads_same}
use Rattle.lock.specs.State.{thread_at}
use Rattle.lock.specs.Valid.{Between}
use Rattle.lock.specs.declared.State.{State}
use Rattle.number.specs.Numbers.{thread}
use Rattle.number.specs.Sizes.{first_line, last_line}
use Rattle.saved.specs.Saved.{state_in}
use Rattle.ask.specs.Ask.{how_many_threads_to}
use Rattle.ask.specs.Proof.Count.{one_thread_more}
use Rattle.ask.proofs.Judged.how_many_threads.Goals.{else-loop-t-test, then-loop-t-test+else-t-t-end}
use Rattle.ask.proofs.Judged.how_many_threads.Goals as goal

counts_as : (test : Bool) → bool_byte test ≡ cond test 1 0
counts_as true = refl
counts_as false = refl

counts_once : (test : Bool) → bool_byte test ≤ 1
counts_once true = omega arith
counts_once false = omega arith

-- thread t is counted
counted : (t : ℕ) (test : ℕ → Bool) (s : State) {n x : ℕ} {passes : Bool} → 1 ≤ t → n ≡ how_many_threads_to (t - 1) (λ v. test v.line) s
    → x ≡ bool_byte passes → passes ≡ test (thread_at s (thread t)).line → n + x ≡ how_many_threads_to t (λ v. test v.line) s
counted t test s h before x-is passes-is = rw (one_thread_more t (λ v. test v.line) s h, before, x-is, passes-is, counts_as) refl

pub loop-t-init : goal.loop-t-init
unfolding how_many_threads_to
loop-t-init g c = (omega arith, λ test agrees. refl)

pub line-requires : goal.line-requires
line-requires g c =
    let a = c.args in
    record { laid = a.self.laid; from = omega arith; to = omega (arith, threads_same _ _ a.self.held, c.threads-t-end.ensures _ a.self.held) }

pub passes-requires : goal.passes-requires
passes-requires g c =
    let self = c.args.self in
    let inside = (self.rule.thread (record { 0 = c.loop-t.t }) (omega arith) (omega (arith, c.threads-t-end.ensures _ self.held))).line in
    let there : Between first_line c.line.result last_line = rw (c.line.ensures _ self.held) inside in
    search (of_calls, c.requires _ there)

pub loop-t-preserved : goal.loop-t-preserved
loop-t-preserved g c =
    let self = c.args.self in
    let inside = (self.rule.thread (record { 0 = c.loop-t.t }) (omega arith) (omega (arith, c.threads-t-end.ensures _ self.held))).line in
    let line = c.line.ensures _ self.held in
    let there : Between first_line c.line.result last_line = rw line inside in
    let e : c.loop-t.t + 1 - 1 ≡ c.loop-t.t = omega arith in (
      omega (arith, c.from-n.ensures, counts_once c.passes.result),
      λ test agrees.
          rw e (counted c.loop-t.t test _ (omega arith) (c.loop-t.invariant.1 test agrees) c.from-n.ensures (agrees _ _ there c.passes.ensures ∙ ap test line)),
    )

pub returns : goal.returns
returns g c = λ test agrees.
    let self = c.args.self in
    let end = c.threads-t-end.ensures _ self.held in
    elim c.loop-t-test.branch [
      | else-loop-t-test w ↦ absurd (omega (arith, end, self.rule.shared.threads.from))
      | then-loop-t-test+else-t-t-end w ↦
          let line = w.line.ensures _ self.held in
          let there : Between first_line w.line.result last_line =
          rw line (self.rule.thread (record { 0 = c.loop-t.t }) (omega arith) (omega (arith, end))).line in
          let all : c.loop-t.t ≡ (state_in self.bytes.now).shared.threads = omega (arith, end) in
          w.n-is
          ∙ counted c.loop-t.t test (state_in self.bytes.now) (omega arith) (c.loop-t.invariant.1 test agrees) w.from-n.ensures
          (agrees _ _ there w.passes.ensures ∙ ap test line)
          ∙ ap (λ t. how_many_threads_to t (λ v. test v.line) (state_in self.bytes.now)) all
    ]
