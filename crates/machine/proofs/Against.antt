-- The step against the figure, put together: sound by Leads, complete by Leads and by the conditions (Exactly): what is possible, and what the
-- figure's rule asks, leaves no condition that applies. Rests on what an accepted step is (specs/Proof/Accepts). Assumes nothing.
use Rattle.std.specs.Prelude.{Bool, false, true, ◌≢◌, ◌≡◌, refl, ℕ, eqb}
use Rattle.std.proofs.Common.{true≢false, ⊎_elim, ap, subst, sym, ◌∙◌, arith}
use Rattle.std.proofs.Math.Decide.{ℕ_discrete}
use Rattle.machine.specs.Proof.Clear.{clear}
use Rattle.figure.specs.Figure.{Figure, flag, line, local, locked, my, next}
use Rattle.figure.specs.Figure.Figure.{line11, line12, line13, line14, line15, line16, line17, line18, line19, line20, line21, line22, line23, line24}
use Rattle.figure.specs.Figure.Figure.{line25, line26, line27, line28, line29}
use Rattle.lines.specs.Lines.{line_at}
use Rattle.lock.specs.Judged.{in_table, valid_rule}
use Rattle.lock.specs.State.{thread_at}
use Rattle.lock.specs.Valid.{Sized, Valid}
use Rattle.lock.specs.declared.State.{State}
use Rattle.number.specs.Refused.{done}
use Rattle.number.specs.declared.NodeNo.{NodeNo}
use Rattle.number.specs.declared.ThreadNo.{ThreadNo}
use Rattle.machine.specs.Conditions.{NoneApply, Waits, conditions}
use Rattle.machine.specs.Conditions.Waits.{at16, at19, at23}
use Rattle.machine.specs.Demands.{Complete, Exact, Possible, Sound, Tool, Unchanged}
use Rattle.machine.specs.Proof.Answer.{accepted, executes, unchanged}
use Rattle.machine.specs.Proof.Exactly.{accepted_exactly, exactly_when}
use Rattle.machine.specs.Proof.Accepts.{now_at, possible}
use Rattle.machine.proofs.Leads.{ends, leads}
use Rattle.machine.specs.Step.{followed, step, stepped}
use Rattle.machine.specs.Stepped.{Stepped}
use Rattle.word.specs.Word.{in_use}

-- ---- an accepted step
module _ (s : State) (t : ThreadNo) (n : NodeNo) (rule : Valid s) (h : (step s t n).answer ≡ done) where
  pub leads_on : Figure t n s (step s t n).state
  leads_on =
      let ok = accepted s t n h in
      let b = in_table t.0 s.shared.threads ok.there in
      let l = (rule.thread t b.from b.to).line in
      let v = thread_at s t in
      rw (now_at s t n rule h) (leads s t n v.line l.from l.to refl (clear s (line_at v.line) (followed v.line s t) n ok.clear))

pub sound : Sound step
sound s t n = leads_on s t n

-- ---- what the figure's rules ask

-- X where the test holds, and nothing elsewhere
abbrev Where : Bool → Type 0 → Type 0
Where true X = X
Where false X = Unit {0}

module _ (s : State) (t : ThreadNo) (n : NodeNo) where
  -- at line l: at 11 the node is free, at 16 the flag is up, at 19 my is unlocked, at 23 my is linked, and nothing elsewhere
  abbrev Asks : ℕ → Type 0
  Asks l =
      Where (eqb l 11) ((n.0 ≢ 0) × (in_use (local s) n ≡ false))
      × Where (eqb l 16) (flag s ≡ 1)
      × Where (eqb l 19) (locked s (my s t) ≡ 0)
      × Where (eqb l 23) ((next s (my s t)).0 ≢ 0)

  -- said of the line's number, and so of the thread's line
  said_of : (l : ℕ) → line s t ≡ l → Asks l → Asks (line s t)
  said_of l e a = subst Asks (sym e) a

  at : (l : ℕ) → line s t ≡ l → Asks (line s t) → Asks l
  at l e a = subst Asks e a

  abbrev nothing : Unit {0} × Unit {0} × Unit {0} × Unit {0}
  nothing = (tt, tt, tt, tt)

  asks : (s' : State) → Figure t n s s' → Asks (line s t)
  asks s' (line11 e a b q) = said_of 11 e ((a, b), tt, tt, tt)
  asks s' (line12 e q) = said_of 12 e nothing
  asks s' (line13 e q) = said_of 13 e nothing
  asks s' (line14 e q) = said_of 14 e nothing
  asks s' (line15 e q) = said_of 15 e nothing
  asks s' (line16 e a q) = said_of 16 e (tt, a, tt, tt)
  asks s' (line17 e q) = said_of 17 e nothing
  asks s' (line18 e q) = said_of 18 e nothing
  asks s' (line19 e a q) = said_of 19 e (tt, tt, a, tt)
  asks s' (line20 e q) = said_of 20 e nothing
  asks s' (line21 e q) = said_of 21 e nothing
  asks s' (line22 e q) = said_of 22 e nothing
  asks s' (line23 e a q) = said_of 23 e (tt, tt, tt, a)
  asks s' (line24 e q) = said_of 24 e nothing
  asks s' (line25 e q) = said_of 25 e nothing
  asks s' (line26 e q) = said_of 26 e nothing
  asks s' (line27 e q) = said_of 27 e nothing
  asks s' (line28 e q) = said_of 28 e nothing
  asks s' (line29 e q) = said_of 29 e nothing

  -- what the figure allows does not wait
  goes : Asks (line s t) → Waits s t → ⊥
  goes a (at16 e h) = h (at 16 e a).1
  goes a (at19 e h) = h (at 19 e a).2
  goes a (at23 e h) = (at 23 e a).3 h

  -- no condition applies to a possible step that the figure allows
  none_applies : Valid s → Possible s t n → Asks (line s t) → NoneApply (conditions s t n)
  none_applies rule p a = (
    (λ h. h rule),
    (
      (λ h. h p.thread),
      (
        ⊎_elim (λ h. let not_zero : n.0 ≢ 0 = (at 11 h.0 a).0.0 in h.1 (record { from = omega arith; to = p.within h.0 })) (λ h. h.1 (p.named h.0)),
        (
          (λ h. omega (arith, h.1, p.entries h.0)),
          (
            (λ h. true≢false (sym h.1 ∙ (at 11 h.0 a).0.1)),
            (
              (λ h. (p.followed h.0 h.1).0 h.2),
              (
                (λ h. true≢false (sym (p.followed h.0 h.1).1 ∙ h.2)),
                (
                  ⊎_elim (λ h. omega (arith, h.1, p.high_places h.0)) (λ h. omega (arith, h.1, p.low_places h.0)),
                  (goes a, tt),
                ),
              ),
            ),
          ),
        ),
      ),
    ),
  )

pub complete : Complete step
complete s t n s' rule p f =
    let e = (accepted_exactly s t n rule.sized).1 (none_applies s t n rule p (asks s t n s' f)) in
    executes s t n (accepted s t n e) ∙ ap (stepped done) (sym (ends s t n s' f))

pub complete_same : (tool : Tool) → Complete tool → (s : State) (t : ThreadNo) (n : NodeNo) → Valid s → (step s t n).answer ≡ done → tool s t n ≡ step s t n
complete_same tool c s t n rule h =
    c s t n (step s t n).state rule (possible s t n rule h) (sound s t n rule h) ∙ ap (λ (a : ℕ). stepped a (step s t n).state) (sym h)

-- ---- the demands leave no second tool

-- two results with the same answer and the same state
both_parts : {r r' : Stepped} → r.answer ≡ r'.answer → r.state ≡ r'.state → r ≡ r'
both_parts a b = λ i. record { answer = a i; state = b i }

pub no_second_tool : (tool : Tool) → Exact tool → Unchanged tool → Complete tool
    → (s : State) (t : ThreadNo) (n : NodeNo) → Sized s → tool s t n ≡ step s t n
no_second_tool tool exact same complete s t n sized = go (ℕ_discrete (step s t n).answer done)
  where
    -- both give the number of the first condition that applies
    answers : (tool s t n).answer ≡ (step s t n).answer
    answers = (exact s t n sized (step s t n).answer).1 ((exactly_when s t n sized (step s t n).answer).0 refl)

    go : Dec ((step s t n).answer ≡ done) → tool s t n ≡ step s t n
    go (yes h) = complete_same tool complete s t n (valid_rule s sized (accepted s t n h).judged) h
    go (no h) = both_parts answers (same s t n (λ e. h (sym answers ∙ e)) ∙ sym (unchanged s t n h))
