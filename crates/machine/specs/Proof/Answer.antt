-- A step's answer, taken apart: which tests led to it, and what the state is then. Assumes nothing.
use Rattle.std.specs.Prelude.{Bool, not, List, ◌∷◌, ◌≢◌, ◌≡◌, ℕ}
use Rattle.std.proofs.Math.Bool.{cond, false, true}
use Rattle.std.proofs.Math.Path.{ap, refl, sym}
use Rattle.std.proofs.Common.{◌∙◌, arith, eq-eqb, ne_eqb}
use Rattle.std.proofs.Math.Decide.{ℕ_discrete}
use Rattle.figure.specs.Figure.{line}
use Rattle.lines.specs.Lines.{line_at}
use Rattle.lock.specs.Valid.{valid}
use Rattle.lock.specs.declared.State.{State}
use Rattle.number.specs.Refused.{Refusal, ◌if◌, bad_state, done, first_of, no_such_thread}
use Rattle.number.specs.declared.NodeNo.{NodeNo}
use Rattle.number.specs.declared.ThreadNo.{ThreadNo}
use Rattle.machine.specs.Refusals.{refusal, refusals}
use Rattle.machine.specs.Step.{advance, advance_by, after, followed, no_thread, refusal_of, step, stepped}
use Rattle.machine.specs.Stepped.{Stepped}

-- ---- an event in a judged state: it is refused, or the line is executed
module _ (l : ℕ) (s : State) (t : ThreadNo) (n : NodeNo) where
  by_refused : refusal_of l s t n ≢ done → advance_by l s t n ≡ stepped (refusal_of l s t n) s
  by_refused h = rw (ne_eqb (refusal_of l s t n) done h)

  by_done : refusal_of l s t n ≡ done → advance_by l s t n ≡ stepped done (after l s t n)
  by_done h = rw (eq-eqb (refusal_of l s t n) done h)

  by_answer : (advance_by l s t n).answer ≡ refusal_of l s t n
  by_answer = go (ℕ_discrete (refusal_of l s t n) done)
    where
      go : Dec (refusal_of l s t n ≡ done) → (advance_by l s t n).answer ≡ refusal_of l s t n
      go (yes h) = ap (λ (r : Stepped). r.answer) (by_done h) ∙ sym h
      go (no h) = ap (λ (r : Stepped). r.answer) (by_refused h)

module _ (s : State) (t : ThreadNo) (n : NodeNo) where
  abbrev l : ℕ
  l = line s t

  -- ---- the answer is that of the first test that holds
  abbrev pub tests : List Refusal
  tests =
      bad_state if not (valid s)
      ∷ no_such_thread if no_thread s.shared.threads t
      ∷ refusals s (line_at l) (followed l s t) n

  pub answer_first : (step s t n).answer ≡ first_of tests
  unfolding step advance refusal
  answer_first = go (valid s) (no_thread s.shared.threads t)
    where
      go : (a b : Bool) → (cond a (cond b (stepped no_such_thread s) (advance_by l s t n)) (stepped bad_state s)).answer
          ≡ cond (not a) bad_state (cond b no_such_thread (refusal_of l s t n))
      go false b = refl
      go true true = refl
      go true false = by_answer l s t n

  -- ---- an accepted step: no test holds, and the line is executed
  pub record Accepted : Type 0 where
    pub judged : valid s ≡ true
    pub there : no_thread s.shared.threads t ≡ false
    pub clear : refusal_of l s t n ≡ done

  pub accepted : (step s t n).answer ≡ done → Accepted
  unfolding step advance
  accepted h = go (valid s) (no_thread s.shared.threads t) refl refl h
    where
      go : (a b : Bool) → valid s ≡ a → no_thread s.shared.threads t ≡ b
          → (cond a (cond b (stepped no_such_thread s) (advance_by l s t n)) (stepped bad_state s)).answer ≡ done → Accepted
      go false b p q e = absurd (omega arith)
      go true true p q e = absurd (omega arith)
      go true false p q e = record { judged = p; there = q; clear = sym (by_answer l s t n) ∙ e }

  pub executes : Accepted → step s t n ≡ stepped done (after l s t n)
  unfolding step advance
  executes a = rw (a.judged, a.there) (by_done l s t n a.clear)

  -- ---- a refused step: the state is the same
  pub unchanged : (step s t n).answer ≢ done → (step s t n).state ≡ s
  unfolding step advance
  unchanged h = go (valid s) (no_thread s.shared.threads t) h
    where
      go : (a b : Bool) → let r = cond a (cond b (stepped no_such_thread s) (advance_by l s t n)) (stepped bad_state s) in r.answer ≢ done → r.state ≡ s
      go false b e = refl
      go true true e = refl
      go true false e = ap (λ (r : Stepped). r.state) (by_refused l s t n (λ z. e (by_answer l s t n ∙ z)))
