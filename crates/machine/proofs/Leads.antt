-- An accepted line leads where Figure 1 leads, line by line: what the executable definition computes at the line's number is what the figure's rule
-- names. Only line 22, which has a choice in what it does and in where it goes on, goes by cases. Assumes nothing.
use Rattle.std.specs.Prelude.{Bool, cond, false, true, ◌≡◌, refl, ℕ, ◌≤◌}
use Rattle.std.proofs.Common.{ap, ◌∙◌, eqb-true}
use Rattle.std.proofs.Math.Path.{sym}
use Rattle.std.proofs.lemmas.Bool.{eqb-false, not-false}
use Rattle.figure.specs.Figure.{Figure, ◌⟪line◌≔◌⟫, ◌⟪tail≔◌⟫, line, my, tail}
use Rattle.figure.specs.Figure.Figure.{line11, line12, line13, line14, line15, line16, line17, line18, line19, line20, line21, line22, line23, line24}
use Rattle.figure.specs.Figure.Figure.{line25, line26, line27, line28, line29}
use Rattle.lines.specs.Lines.{line_at}
use Rattle.lock.specs.declared.State.{State}
use Rattle.number.specs.Numbers.{bottom, same}
use Rattle.number.specs.Tests.{neither_holds}
use Rattle.number.specs.declared.NodeNo.{NodeNo}
use Rattle.number.specs.declared.ThreadNo.{ThreadNo}
use Rattle.machine.specs.Acts.{perform}
use Rattle.machine.specs.Proof.ByLine.{◌also◌, by_line}
use Rattle.machine.specs.Proof.Clear.{Clear}
use Rattle.machine.specs.Step.{after, followed}

-- 22, by whether tail is my
pub closes : (s : State) (t : ThreadNo) (goes other : ℕ) (b : Bool)
    → cond b (s ⟪tail≔ bottom ⟫) s ⟪line t ≔ cond b goes other ⟫ ≡ cond b (s ⟪tail≔ bottom ⟫ ⟪line t ≔ goes ⟫) (s ⟪line t ≔ other ⟫)
closes s t goes other true = refl
closes s t goes other false = refl

module _ (s : State) (t : ThreadNo) (n : NodeNo) where
  abbrev closes22 : after 22 s t n ≡ cond (same (tail s) (my s t)) (s ⟪tail≔ bottom ⟫ ⟪line t ≔ 25 ⟫) (s ⟪line t ≔ 23 ⟫)
  unfolding line_at perform
  closes22 = closes s t 25 23 (same (tail s) (my s t))

  abbrev pub Leads : ℕ → Type 0
  Leads l = line s t ≡ l → Clear s (line_at l) (followed l s t) n → Figure t n s (after l s t n)

  pub leads : (l : ℕ) → 11 ≤ l → l ≤ 29 → Leads l
  unfolding line_at perform
  leads =
      by_line Leads
      ((λ e c. line11 e (eqb-false _ _ (neither_holds _ _ c.node).0) c.free refl)
      also (λ e c. line12 e refl)
      also (λ e c. line13 e refl)
      also (λ e c. line14 e refl)
      also (λ e c. line15 e refl)
      also (λ e c. line16 e (eqb-true _ _ (not-false _ c.go)) refl)
      also (λ e c. line17 e refl)
      also (λ e c. line18 e refl)
      also (λ e c. line19 e (eqb-true _ _ (not-false _ c.go)) refl)
      also (λ e c. line20 e refl)
      also (λ e c. line21 e refl)
      also (λ e c. line22 e closes22)
      also (λ e c. line23 e (eqb-false _ _ c.go) refl)
      also (λ e c. line24 e refl)
      also (λ e c. line25 e refl)
      also (λ e c. line26 e refl)
      also (λ e c. line27 e refl)
      also (λ e c. line28 e refl)
      also (λ e c. line29 e refl)
      also tt)

  -- the same states the other way round: wherever the figure leads, it is to what the executable definition computes there
  there : (l : ℕ) → line s t ≡ l → after l s t n ≡ after (line s t) s t n
  there l e = ap (λ (x : ℕ). after x s t n) (sym e)

  pub ends : (s' : State) → Figure t n s s' → s' ≡ after (line s t) s t n
  unfolding line_at perform
  ends s' (line11 e a b q) = q ∙ there 11 e
  ends s' (line12 e q) = q ∙ there 12 e
  ends s' (line13 e q) = q ∙ there 13 e
  ends s' (line14 e q) = q ∙ there 14 e
  ends s' (line15 e q) = q ∙ there 15 e
  ends s' (line16 e a q) = q ∙ there 16 e
  ends s' (line17 e q) = q ∙ there 17 e
  ends s' (line18 e q) = q ∙ there 18 e
  ends s' (line19 e a q) = q ∙ there 19 e
  ends s' (line20 e q) = q ∙ there 20 e
  ends s' (line21 e q) = q ∙ there 21 e
  ends s' (line22 e q) = q ∙ sym closes22 ∙ there 22 e
  ends s' (line23 e a q) = q ∙ there 23 e
  ends s' (line24 e q) = q ∙ there 24 e
  ends s' (line25 e q) = q ∙ there 25 e
  ends s' (line26 e q) = q ∙ there 26 e
  ends s' (line27 e q) = q ∙ there 27 e
  ends s' (line28 e q) = q ∙ there 28 e
  ends s' (line29 e q) = q ∙ there 29 e
