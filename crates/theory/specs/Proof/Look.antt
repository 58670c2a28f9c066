-- The line at which a thread is seen: its own, but a thread at 15 or 21, where it only looks at prev or succ, is seen at the line it goes on to. So these two
-- steps change nothing that is seen, and what prev decides at 15 is said at 16 and at 18. Assumes nothing.
use Rattle.std.specs.Prelude.{Bool, cond, false, true, ◌≢◌, ◌≡◌, ℕ, ◌≤◌, eqb}
use Rattle.std.proofs.Common.{ap, ◌∙◌, arith, ne_eqb}
use Rattle.std.proofs.Math.Path.{refl}
use Rattle.std.proofs.Math.Decide.{ℕ_discrete}
use Rattle.figure.specs.Figure.{line, prev, succ}
use Rattle.lock.specs.State.{thread_at}
use Rattle.lock.specs.declared.State.{State}
use Rattle.lock.specs.declared.Thread.{Thread}
use Rattle.number.specs.declared.ThreadNo.{ThreadNo}
use Rattle.theory.specs.Queue.AtLines.{In}
use Rattle.theory.specs.Queue.Seen.{Seen}
use Rattle.theory.specs.Queue.View.{threads_in}

-- by line, prev and succ
abbrev pub onward : ℕ → ℕ → ℕ → ℕ
onward line prev succ = cond (eqb line 15) (cond (eqb prev 0) 16 18) (cond (eqb line 21) (cond (eqb succ 0) 22 25) line)

-- of a thread
abbrev pub look : Thread → ℕ
look v = onward v.line v.prev.0 v.succ.0

-- the threads of a state
abbrev pub threads_of : ℕ → State → ℕ → Seen
threads_of base s = threads_in look base s.thread

-- a choice between two lines is one of them
pub one_of : (b : Bool) (P : ℕ → Type 0) (k n : ℕ) → P k → P n → P (cond b k n)
one_of true P k n x y = x
one_of false P k n x y = y

-- a thread that goes on to one of two lines at which it is seen itself is seen there
pub seen_ahead : (b : Bool) (k n p s : ℕ) → onward k p s ≡ k → onward n p s ≡ n → onward (cond b k n) p s ≡ cond b k n
seen_ahead b k n p s = one_of b (λ (l : ℕ). onward l p s ≡ l) k n

-- By what is seen of a line.
by_look : {X : Type 0} (l p s : ℕ) → (l ≢ 15 → l ≢ 21 → onward l p s ≡ l → X) → (l ≡ 15 → In 16 18 (onward l p s) → X)
    → (l ≡ 21 → In 22 25 (onward l p s) → X) → X
by_look {X} l p s as-it-is at15 at21 = go (ℕ_discrete l 15) (ℕ_discrete l 21)
  where
    go : Dec (l ≡ 15) → Dec (l ≡ 21) → X
    go (yes a) b = at15 a (rw a (one_of (eqb p 0) (In 16 18) 16 18 (omega arith) (omega arith)))
    go (no a) (yes b) = at21 b (rw b (one_of (eqb s 0) (In 22 25) 22 25 (omega arith) (omega arith)))
    go (no a) (no b) = as-it-is a b (rw (ne_eqb l 15 a, ne_eqb l 21 b))

module _ (base : ℕ) (s : State) (t : ThreadNo) where
  -- the line at which a thread of the state is seen
  seen_line : (threads_of base s t.0).line ≡ look (thread_at s t)
  unfolding threads_in
  seen_line = refl

  -- At a numeral line this computes.
  pub seen_at : (l : ℕ) → line s t ≡ l → (threads_of base s t.0).line ≡ onward l (prev s t).0 (succ s t).0
  seen_at l e = seen_line ∙ ap (λ (x : ℕ). onward x (prev s t).0 (succ s t).0) e

  -- A thread at the lines a to b is seen at these lines, if what comes behind 15 and behind 21 is among them too.
  pub seen_within : (a b : ℕ) → (In a b 15 → 18 ≤ b) → (In a b 21 → 25 ≤ b) → In a b (line s t) → In a b (threads_of base s t.0).line
  seen_within a b f g h =
      let e = seen_line in
      by_look (line s t) (prev s t).0 (succ s t).0
      (λ x y z. omega arith)
      (λ x z. let k = f (omega arith) in omega arith)
      (λ x z. let k = g (omega arith) in omega arith)

  -- A thread that is seen off line 11 is off line 11.
  pub seen_off : 12 ≤ (threads_of base s t.0).line → 12 ≤ line s t
  seen_off h =
      let e = seen_line in
      by_look (line s t) (prev s t).0 (succ s t).0 (λ x y z. omega arith) (λ x z. omega arith) (λ x z. omega arith)
