-- What demand 3 says of lists of events: the passages are the first of the exchanges, no thread passes twice between another's exchange and its passage, and
-- no event is answered 9 to 11. Rests on Reaches, States and Queue/Once. Assumes nothing.
use Rattle.std.specs.Prelude.{true, List, [], ◌∷◌, ◌++◌, ◌≡◌, refl, ℕ, zero, suc, ◌≤◌, ◌<◌, eqb, get_or, length}
use Rattle.std.proofs.Common.{ap, subst₂, sym, ◌∙◌, arith, length-append}
use Rattle.std.proofs.Math.ListN.{get_or-append}
use borrow.Author.Tests.{eqb-true}
use Rattle.events.specs.Events.{after, answers}
use Rattle.events.specs.declared.Event.{Event}
use Rattle.figure.specs.Figure.{line}
use Rattle.lock.specs.declared.State.{State}
use Rattle.number.specs.Refused.{done}
use Rattle.number.specs.Tests.{first_holds, second_holds}
use Rattle.number.specs.declared.ThreadNo.{ThreadNo}
use Rattle.machine.specs.Demands.{Tool}
use Rattle.machine.specs.Step.{step}
use Rattle.theory.specs.Demands.{Never9To11, NthPassage, PassesOnce, Prefix, accepted_at, done_at, exchange_line, exchanges, how_often, nobody, passages}
use Rattle.theory.specs.Proof.Reached.{Reached}
use Rattle.theory.proofs.Reaches.{event_reached, events_reached}
use Rattle.theory.proofs.States.{never}
use Rattle.theory.specs.Queue.Once.{once_between, passed_first, to_pass}

-- what stands at a place of the front stands there in the whole
prefix_at : (front whole : List ThreadNo) → Prefix front whole → (i : ℕ) → i < length front → (i < length whole) × (get_or front i nobody ≡ get_or whole i nobody)
prefix_at front whole (rest, e) i h = (
  omega (arith, ap length e, length-append front rest),
  sym (get_or-append front rest nobody i h) ∙ ap (λ (xs : List ThreadNo). get_or xs i nobody) (sym e),
)

-- ---- events in two parts
after_append : (tool : Tool) (s : State) (es later : List Event) → after tool s (es ++ later) ≡ after tool (after tool s es) later
unfolding after
after_append tool s [] later = refl
after_append tool s (e ∷ es) later = after_append tool (tool s e.thread e.node).state es later

-- the state after one event more
one_more : (tool : Tool) (s : State) (es : List Event) (e : Event) → after tool s (es ++ e ∷ []) ≡ (tool (after tool s es) e.thread e.node).state
unfolding after
one_more tool s es e = after_append tool s es (e ∷ [])

module _ {s : State} {exchanged passed : List ThreadNo} (r : Reached s exchanged passed) where
  -- The passages are the first of the exchanges.
  pub passed_prefix : Prefix passed exchanged
  passed_prefix = (to_pass r.kept.1, passed_first r.kept.1)

  -- ---- an exchange, and later events
  module _ (e : Event) (later : List Event) (h : accepted_at step exchange_line s e ≡ true) where
    abbrev s₁ : State
    s₁ = (step s e.thread e.node).state

    -- the exchange is noted first ..
    exchange_noted : exchanges step s (e ∷ later) ≡ e.thread ∷ exchanges step s₁ later
    unfolding done_at
    exchange_noted = rw h

    -- .. and is no passage
    no_passage : passages step s (e ∷ later) ≡ passages step s₁ later
    unfolding done_at
    no_passage =
        let accepted = first_holds (eqb (step s e.thread e.node).answer done) _ h in
        let at-14 = eqb-true (line s e.thread) exchange_line (second_holds (eqb (step s e.thread e.node).answer done) _ h) in
        rw (accepted, at-14)

    -- so this is the order when the later events are over
    order_later : Reached (after step s (e ∷ later)) (exchanged ++ e.thread ∷ exchanges step s₁ later) (passed ++ passages step s₁ later)
    order_later =
        subst₂ (λ (x y : List ThreadNo). Reached (after step s (e ∷ later)) (exchanged ++ x) (passed ++ y)) exchange_noted no_passage
        (events_reached r (e ∷ later))

    -- Before its thread has passed, no thread has passed twice.
    once_since : let since = passages step s₁ later in how_often e.thread since ≡ 0 → (u : ThreadNo) → how_often u since ≤ 1
    once_since = once_between r.kept.1 r.kept.0.places e.thread (exchanges step s₁ later) (passages step s₁ later) order_later.kept.1

-- The n-th passage is made by the thread that made the n-th exchange.
pub nth_passage : (s : State) (es : List Event) → Prefix (passages step s es) (exchanges step s es) → NthPassage step s es
nth_passage s es = prefix_at (passages step s es) (exchanges step s es)

-- After a thread's exchange and before its passage, each other thread passes at most once.
pub passes_once : {s : State} {exchanged passed : List ThreadNo} → Reached s exchanged passed → (es : List Event) → PassesOnce step s es
passes_once {s} r es before e later rest es-is accepted = rw (one_more step s before e) (once_since (events_reached r before) e later accepted)

-- No event is answered 9, 10 or 11.
pub never_answered : {s : State} {exchanged passed : List ThreadNo} → Reached s exchanged passed → (es : List Event) → Never9To11 step s es
unfolding answers
never_answered r [] i h = omega arith
never_answered r (e ∷ es) zero h = never r e.thread e.node h
never_answered {s} r (e ∷ es) (suc i) h = never_answered {s = (step s e.thread e.node).state} (event_reached r e) es i h
