-- The arms of the event: at a line's own row what is said of the line's function is the event of the definition, by computation; and the last arm is that of
-- line 29. Assumes nothing.
use Rattle.std.specs.Prelude.{List, ◌≢◌, ◌≡◌, ℕ, zero, suc, ◌+◌, ◌≤◌}
use Rattle.std.proofs.Math.Path.{ap, refl}
use Rattle.std.proofs.Common.{subst, sym, ◌∙◌, arith}
use Rattle.refusals.specs.Lines.{Gives, Strict, chosen, exchanged, flag_lowered, locked_set, mess_sent, mess_taken, next_cleared, next_read, passed_on, prev_linked}
use Rattle.refusals.specs.Lines.{prev_looked, released, succ_looked, tail_closed, waited}
use Rattle.cells.specs.Cells.{Held}
use Rattle.figure.specs.Figure.{line, my, tail}
use Rattle.lines.specs.Lines.{line_at, row_of}
use Rattle.lines.specs.declared.Row.{Row}
use Rattle.lock.specs.declared.State.{State}
use Rattle.machine.specs.Acts.{perform}
use Rattle.machine.proofs.Leads.{closes}
use Rattle.machine.specs.Refusals.{refusal}
use Rattle.machine.specs.Step.{advance_by, refusal_of, stop_or}
use Rattle.machine.specs.Stepped.{Stepped}
use Rattle.number.specs.Numbers.{same}
use Rattle.number.specs.declared.NodeNo.{NodeNo}
use Rattle.number.specs.declared.ThreadNo.{ThreadNo}
use Rattle.refusals.specs.Stops.{AtNode}

-- a line is past those that it is none of: none of the m lines from 11 on
abbrev NoneOf : ℕ → ℕ → Type 0
NoneOf l zero = Unit {0}
NoneOf l (suc m) = NoneOf l m × (l ≡ 11 + m → ⊥)

pub past : (l m : ℕ) → 11 ≤ l → NoneOf l m → 11 + m ≤ l
past l zero a h = omega arith
past l (suc m) a h = let b = past l m a h.0 in let off : l ≢ 11 + m = h.1 in omega arith

-- ---- a line's own row

-- at its own row what is said of a line's function is the event of the line
module _ (s : State) (t : ThreadNo) (n : NodeNo) where
  abbrev Own : (Row → State → ThreadNo → NodeNo → Stepped) → ℕ → Type 0
  Own f l = f (row_of (line_at l)) s t n ≡ advance_by l s t n

  pub own : Own chosen 11 × Own next_cleared 12 × Own locked_set 13 × Own exchanged 14 × Own prev_looked 15 × Own waited 16 × Own flag_lowered 17
      × Own prev_linked 18 × Own waited 19 × Own next_read 20 × Own succ_looked 21 × Own tail_closed 22 × Own waited 23 × Own next_read 24 × Own mess_sent 25
      × Own released 26 × Own waited 27 × Own mess_taken 28 × Own passed_on 29
  unfolding line_at perform refusal
  own =
      let closed = ap (stop_or (refusal_of 22 s t n) s) (sym (closes s t 25 23 (same (tail s) (my s t)))) in
      (refl, refl, refl, refl, refl, refl, refl, refl, refl, refl, refl, closed, refl, refl, refl, refl, refl, refl, refl)

-- the lines that do something with my, or with prev, follow it whatever it is; so do those that wait for a number of it
abbrev Follows : ℕ → Type 0
Follows l = Strict (line_at l).follow

pub strict : Follows 12 × Follows 13 × Follows 18 × Follows 20 × Follows 24
unfolding line_at
strict = ((λ k. refl), (λ k. refl), (λ k. refl), (λ k. refl), (λ k. refl))

abbrev WaitsAt : ℕ → Type 0
WaitsAt l = AtNode (line_at l).wait (Follows l)

pub waits_at_lem : WaitsAt 16 × WaitsAt 19 × WaitsAt 23 × WaitsAt 27
unfolding line_at
waits_at_lem = (tt, (λ k. refl), (λ k. refl), tt)

-- the event of a line's own row, where the thread is shown to be at that line
pub at_line : (l : ℕ) (f : Row → State → ThreadNo → NodeNo → Stepped) (t : ThreadNo) (n : NodeNo)
    → ((s : State) → f (row_of (line_at l)) s t n ≡ advance_by l s t n)
    → {b b' : List ℕ} {r : ℕ} {row : Row} {shown : ℕ} → row ≡ row_of (line_at l) → ((s : State) → Held b s → shown ≡ line s t) → shown ≡ l
    → Gives b b' r (λ s. f row s t n) → Gives b b' r (λ s. advance_by (line s t) s t n)
at_line l f t n same {b} {b'} {r} own shows is gives s held =
    let told : (r ≡ (f (row_of (line_at l)) s t n).answer) × Held b' (f (row_of (line_at l)) s t n).state =
    subst (λ (x : Row). (r ≡ (f x s t n).answer) × Held b' (f x s t n).state) own (gives s held) in
    subst (λ (z : Stepped). (r ≡ z.answer) × Held b' z.state) (same s ∙ ap (λ (x : ℕ). advance_by x s t n) (sym is ∙ shows s held)) told
