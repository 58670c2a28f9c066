-- Lists of answers: which answers go on, how many there are of a kind, and where a list stops. The first section alone looks at what a wait's answer is;
-- all that follows rests on what is said there. By induction over the list. Assumes nothing.
use Rattle.std.specs.Prelude.{Bool, cond, false, true, ◌||◌, ◌≢◌, ◌≡◌, refl, ℕ, ◌+◌, ◌<◌, eqb, get_or, length, take}
use Rattle.std.proofs.Math.Bool.{or-true}
use Rattle.std.proofs.Common.{true≢false, ap, sym, ◌∙◌, add-one, eqb-true, ne_eqb}
use mathlib.Core.List.{List, [], ◌∷◌, ◌++◌}
use native.Mathlib.Omega.{arith}
use Rattle.std.proofs.Math.Seq.{take-suc}
use Rattle.number.specs.Refused.{done}
use Rattle.number.specs.Tests.{neither_holds}
use Rattle.events.specs.Row.{executed, executes, goes_on, how_many_of, stopping, up_to_stop, waited, waits}

-- ---- an answer

-- an answer that stops is not 0, and neither is a wait's; after a wait's the run goes on
pub stop_not_done : (a : ℕ) → goes_on a ≡ false → a ≢ done
stop_not_done a h e = true≢false (sym (ap goes_on e) ∙ h)

pub wait_not_done : (a : ℕ) → waits a ≡ true → a ≢ done
wait_not_done a h e = true≢false (sym h ∙ ap waits e)

pub wait_goes_on : (a : ℕ) → waits a ≡ true → goes_on a ≡ true
wait_goes_on a h = rw (h, or-true (executes a))

-- an answer that goes on and is not 0 is a wait's
pub on_waits : (a : ℕ) → goes_on a ≡ true → a ≢ done → waits a ≡ true
on_waits a h off = rw (ne_eqb a done off) at h

-- an answer that goes on is that of an event executed or of an event waited, and not of both
pub on_counts : (a : ℕ) → goes_on a ≡ true → cond (executes a) 1 0 + cond (waits a) 1 0 ≡ 1
on_counts a h = go (executes a) refl h
  where
    go : (b : Bool) → executes a ≡ b → (b || waits a) ≡ true → cond b 1 0 + cond (waits a) 1 0 ≡ 1
    go true e w = rw (eqb-true a done e)
    go false e w = rw w

-- ---- how many of a kind
module _ (test : ℕ → Bool) where
  pub count_append : (xs ys : List ℕ) → how_many_of test (xs ++ ys) ≡ how_many_of test xs + how_many_of test ys
  unfolding how_many_of
  count_append [] ys = omega arith
  count_append (x ∷ xs) ys = omega (arith, count_append xs ys)

  -- one answer more
  pub count_more : (xs : List ℕ) (i : ℕ) → i < length xs
      → how_many_of test (take (i + 1) xs) ≡ how_many_of test (take i xs) + cond (test (get_or xs i 0)) 1 0
  unfolding how_many_of
  count_more xs i h = rw (add-one i, take-suc xs i 0 h, count_append (take i xs) (get_or xs i 0 ∷ [])) (omega arith)

-- ---- where a list stops

-- behind answers that do not stop, it stops where the rest does
pub stopping_append : (xs ys : List ℕ) → stopping xs ≡ done → stopping (xs ++ ys) ≡ stopping ys
unfolding stopping
stopping_append [] ys h = refl
stopping_append (a ∷ later) ys h = go (stopping_append later ys) (goes_on a) refl h
  where
    go : (stopping later ≡ done → stopping (later ++ ys) ≡ stopping ys) → (b : Bool) → goes_on a ≡ b → cond b (stopping later) a ≡ done
        → cond b (stopping (later ++ ys)) a ≡ stopping ys
    go rest true e h = rest h
    go rest false e h = absurd (stop_not_done a e h)

-- ---- each answer is that of an event executed or waited, or is the one that stops
abbrev pub Counted : List ℕ → Type 0
Counted front = executed front + waited front + cond (eqb (stopping front) done) 0 1 ≡ length front

-- an answer, and the list behind it where it goes on
counted_more : (a : ℕ) (front : List ℕ) → Counted front → (b : Bool) → goes_on a ≡ b → Counted (a ∷ cond b front [])
unfolding how_many_of stopping
counted_more a front rest true e = rw e (omega (arith, on_counts a e))
counted_more a front rest false e =
    let neither = neither_holds (executes a) (waits a) e in
    rw (e, neither.0, neither.1)

pub up_to_stop_counted : (xs : List ℕ) → Counted (up_to_stop xs)
unfolding up_to_stop how_many_of stopping
up_to_stop_counted [] = refl
up_to_stop_counted (a ∷ later) = counted_more a (up_to_stop later) (up_to_stop_counted later) (goes_on a) refl
