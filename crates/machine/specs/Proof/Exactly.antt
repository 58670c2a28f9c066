-- The answer of a step is the number of the first condition that applies: each test of the step says what its condition says (Judges), and the
-- answer is that of the first test that holds (Answer). Assumes nothing.
use Rattle.std.specs.Prelude.{List, ◌∷◌, ◌++◌, ◌↔◌, ◌≡◌, ℕ, drop}
use Rattle.std.proofs.Common.{arith}
use Rattle.std.proofs.lemmas.Bool.{not-false}
use Rattle.lines.specs.Lines.{Line, line_at}
use Rattle.lock.specs.Judged.{in_table, judges_outside, judges_state, valid_rule}
use Rattle.lock.specs.State.{thread_at}
use Rattle.lock.specs.Valid.{Between, Sized, Valid}
use Rattle.lock.specs.declared.State.{State}
use Rattle.lock.specs.declared.Thread.{Thread}
use Rattle.number.specs.Refused.{done, no_such_thread}
use Rattle.number.specs.declared.NodeNo.{NodeNo}
use Rattle.number.specs.declared.ThreadNo.{ThreadNo}
use Rattle.machine.specs.Refusals.{counts, refusals}
use Rattle.machine.specs.Conditions.{Condition, First, NoneApply, conditions}
use Rattle.machine.specs.Proof.Answer.{answer_first, tests}
use Rattle.number.specs.FirstThat.{AllReflect, Rising, done_exactly, number_exactly, this_exactly}
use Rattle.machine.specs.Proof.Judges.{judges10, judges11, judges12, judges6, judges7, judges8, judges9}
use Rattle.machine.specs.Proof.Table.{row_agrees}
use Rattle.machine.specs.Step.{followed, step}

module _ (s : State) (t : ThreadNo) (n : NodeNo) (sized : Sized s) where
  abbrev v : Thread
  v = thread_at s t

  abbrev r : Line
  r = line_at v.line

  -- 6 to 12, in a valid state, of a thread 1 to T
  judges-line :
      Valid s → Between 1 t.0 s.shared.threads → AllReflect (refusals s r (followed v.line s t) n) (drop 2 (conditions s t n))
  judges-line rule b =
      let l = (rule.thread t b.from b.to).line in
      let a = row_agrees v.line l.from l.to in
      let c = counts r.act in (
        judges6 s t n c a.0,
        λ j6. (
          judges7 s t n rule.shared.entered c a.0,
          λ j7. (
            judges8 s t n c a.0,
            λ j8. (
              judges9 v r.follow a.1,
              λ j9. (
                judges10 v s.shared.used r.follow a.1 j9,
                λ j10.
                    (judges11 s t n rule.shared.high.to rule.shared.low.to c a.0, λ j11. (judges12 s t r.wait a.2, λ j12. tt)),
              ),
            ),
          ),
        ),
      )

  judges : AllReflect (tests s t n) (conditions s t n)
  judges =
      let T = s.shared.threads in (
        judges_state s sized,
        λ j1. (judges_outside no_such_thread t.0 T, λ j5. judges-line (valid_rule s sized (not-false _ j1)) (in_table t.0 T j5)),
      )

  pub exactly_when : (m : ℕ) → ((step s t n).answer ≡ m) ↔ First (conditions s t n) m
  exactly_when m = rw (answer_first s t n) (number_exactly (tests s t n) (conditions s t n) judges m)

  -- the numbers of the table rise, so each tells its own condition
  rising : Rising done (conditions s t n)
  rising = omega arith

  pub accepted_exactly : ((step s t n).answer ≡ done) ↔ NoneApply (conditions s t n)
  accepted_exactly = rw (answer_first s t n) (done_exactly (tests s t n) (conditions s t n) judges rising)

  pub given_exactly : (before : List Condition) (c : Condition) (later : List Condition) → conditions s t n ≡ before ++ c ∷ later
      → ((step s t n).answer ≡ c.number) ↔ (NoneApply before × c.applies)
  given_exactly before c later split = rw (answer_first s t n) (this_exactly (tests s t n) (conditions s t n) judges rising before c later split)
