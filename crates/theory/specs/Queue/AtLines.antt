-- Facts that hold at some lines only. `At a b l X` is X where a ≤ l ≤ b, and nothing elsewhere: at a numeral line it computes to the one or the other, so
-- that one `omega` proves all that a thread's own line says. Assumes nothing.
use Rattle.std.specs.Prelude.{Bool, false, true, ℕ, ◌≤◌, T, leb}
use Rattle.std.proofs.Common.{leb→le, le→leb}

-- a ≤ l ≤ b, as a pair, which `omega` makes and takes apart
abbrev pub In : ℕ → ℕ → ℕ → Type 0
In a b l = (a ≤ l) × (l ≤ b)

-- X where both tests pass, and nothing to say elsewhere
abbrev pub both : Bool → Bool → Type 0 → Type 0
both true true X = X
both true false X = Unit {0}
both false true X = Unit {0}
both false false X = Unit {0}

-- X at the lines a to b
pub record At (a b l : ℕ) (X : Type 0) : Type 0 where
  pub body : both (leb a l) (leb l b) X

-- what is shown where both tests pass ..
both_put : (b c : Bool) {X : Type 0} → (T b → T c → X) → both b c X
both_put true true f = f tt tt
both_put true false f = tt
both_put false true f = tt
both_put false false f = tt

-- .. is known there
both_get : (b c : Bool) {X : Type 0} → T b → T c → both b c X → X
both_get true true t u x = x
both_get true false t u x = absurd u
both_get false true t u x = absurd t
both_get false false t u x = absurd t

-- what is known at a line that is one of them ..
pub get : {a b l : ℕ} {X : Type 0} → At a b l X → In a b l → X
get {a} {b} {l} x h = both_get (leb a l) (leb l b) (le→leb a l h.0) (le→leb l b h.1) x.body

-- .. is all that has to be shown there
pub put : {a b l : ℕ} {X : Type 0} → (In a b l → X) → At a b l X
put {a} {b} {l} f = record { body = both_put (leb a l) (leb l b) (λ t u. f (leb→le a l t, leb→le l b u)) }

-- what follows from what is known at these lines
pub map : {a b l : ℕ} {X Y : Type 0} → (In a b l → X → Y) → At a b l X → At a b l Y
map f x = put (λ h. f h (get x h))
