-- What every event keeps, a list of events keeps. R speaks of a state and of the threads that have exchanged and passed on the way to it, in order; for any
-- R, any tool and any two lines. By induction over the events. Assumes nothing.
use Rattle.std.specs.Prelude.{Bool, cond, false, true, ◌≡◌, refl, ℕ}
use mathlib.Core.List.{List, [], ◌∷◌, ◌++◌, append_assoc, append-nil}
use Rattle.std.proofs.Math.Path.{subst₂}
use Rattle.std.proofs.Common.{sym}
use Rattle.events.specs.Events.{after}
use Rattle.events.specs.declared.Event.{Event}
use Rattle.lock.specs.declared.State.{State}
use Rattle.number.specs.declared.ThreadNo.{ThreadNo}
use Rattle.machine.specs.Demands.{Tool}
use Rattle.theory.specs.Demands.{accepted_at, done_at}

-- the list with t behind it, if the test holds
abbrev pub noted : Bool → ThreadNo → List ThreadNo → List ThreadNo
noted b t xs = cond b (xs ++ t ∷ []) xs

-- what is noted behind a list comes before what is noted later
noted_behind : (b : Bool) (t : ThreadNo) (xs later : List ThreadNo) → noted b t xs ++ later ≡ xs ++ cond b (t ∷ later) later
noted_behind true t xs later = append_assoc xs (t ∷ []) later
noted_behind false t xs later = refl

module _ (tool : Tool) (exchange section : ℕ) (R : State → List ThreadNo → List ThreadNo → Type 0)
    (one : (s : State) (x y : List ThreadNo) → R s x y → (e : Event)
    → R (tool s e.thread e.node).state (noted (accepted_at tool exchange s e) e.thread x) (noted (accepted_at tool section s e) e.thread y)) where
  pub events_keep : {s : State} {x y : List ThreadNo} → R s x y → (es : List Event)
      → R (after tool s es) (x ++ done_at tool exchange s es) (y ++ done_at tool section s es)
  unfolding after done_at
  events_keep {x = x} {y = y} r [] = subst₂ (R _) (sym (append-nil x)) (sym (append-nil y)) r
  events_keep {s} {x = x} {y = y} r (e ∷ es) =
      let s₁ = (tool s e.thread e.node).state in
      subst₂ (R (after tool s₁ es))
      (noted_behind (accepted_at tool exchange s e) e.thread x (done_at tool exchange s₁ es))
      (noted_behind (accepted_at tool section s e) e.thread y (done_at tool section s₁ es))
      (events_keep {s = s₁} (one s x y r e) es)
