-- The figure's own steps from a fresh lock and the events that the step accepts are the same: what a step of the figure needs besides to be accepted, that
-- followed nodes are in use and places remain, every reached state has. Rests on Reaches, States and the step's `complete` and `sound`. Assumes nothing.
use Rattle.std.specs.Prelude.{true, List, [], ◌∷◌, ◌≢◌, ◌≡◌, refl}
use Rattle.std.proofs.Math.Logic.{by_cases}
use Rattle.std.proofs.Common.{inl, inr, ap, subst, sym, arith, eq-eqb, ne_eqb}
use Rattle.std.proofs.Math.Decide.{ℕ_discrete}
use Rattle.events.specs.Events.{accepts_all, after}
use Rattle.events.specs.declared.Event.{Event}
use Rattle.figure.specs.Figure.{Figure, high, low}
use Rattle.lock.specs.declared.State.{State}
use Rattle.number.specs.Refused.{done}
use Rattle.number.specs.Sizes.{last_place}
use Rattle.number.specs.declared.ThreadNo.{ThreadNo}
use Rattle.machine.specs.Demands.{Possible}
use Rattle.machine.specs.Step.{step, stepped}
use Rattle.machine.specs.Theorems.{accepted_possible, refused_unchanged}
use Rattle.machine.proofs.Theorems.{complete, sound}
use Rattle.machine.specs.Stepped.{Stepped}
use Rattle.theory.specs.Demands.{done_of}
use Rattle.theory.specs.FigureSteps.{FigureSteps, Within}
use Rattle.theory.specs.FigureSteps.FigureSteps.{no_steps, one_step}
use Rattle.theory.proofs.States.{followed_used, room}
use Rattle.theory.specs.Proof.Reached.{Reached}
use Rattle.theory.proofs.Reaches.{event_reached}

module _ {s : State} {exchanged passed : List ThreadNo} (r : Reached s exchanged passed) (e : Event) where
  -- in a reached state a step of the figure is possible
  possible : Within s e → Possible s e.thread e.node
  possible w =
      let t = e.thread in
      record {
        thread = w.thread;
        named = w.named;
        within = w.within;
        entries = w.entries;
        high_places = λ l. let full : (high s).0 ≢ last_place = λ h. room r t (inl (l, h)) in omega (arith, r.valid.shared.high);
        low_places = λ l. let full : (low s).0 ≢ last_place = λ h. room r t (inr (l, h)) in omega (arith, r.valid.shared.low);
        followed = followed_used r t;
      }

  -- so it is accepted, and leads where the figure leads
  taken : {s' : State} → Within s e → Figure e.thread e.node s s' → step s e.thread e.node ≡ stepped done s'
  taken {s'} w f = complete s e.thread e.node s' r.valid (possible w) f

  -- and an accepted event is within the state's numbers
  within : (step s e.thread e.node).answer ≡ done → Within s e
  within ok =
      let can = accepted_possible s e.thread e.node r.valid ok in
      record { thread = can.thread; named = can.named; within = can.within; entries = can.entries }

pub takes_figure : {s : State} {exchanged passed : List ThreadNo} → Reached s exchanged passed → (es : List Event) (s' : State) → FigureSteps s es s'
    → (accepts_all step s es ≡ true) × (after step s es ≡ s')
unfolding accepts_all after
takes_figure r [] s' no_steps = (refl, refl)
takes_figure {s} r (e ∷ es) s'' (one_step {s' = s'} w f later) =
    let here = taken r e w f in
    let next = subst (λ (x : Stepped). FigureSteps x.state es s'') (sym here) later in
    let rest = takes_figure {s = (step s e.thread e.node).state} (event_reached r e) es s'' next in
    (rw (ap (λ (x : Stepped). x.answer) here) rest.0, rest.1)

pub done_are_figure : {s : State} {exchanged passed : List ThreadNo} → Reached s exchanged passed → (es : List Event)
    → FigureSteps s (done_of step s es) (after step s es)
unfolding done_of after
done_are_figure r [] = no_steps
done_are_figure {s} r (e ∷ es) =
    let t = step s e.thread e.node in
    let later = done_are_figure {s = t.state} (event_reached r e) es in
    by_cases (ℕ_discrete t.answer done)
    (λ ok. rw (eq-eqb t.answer done ok) (one_step (within r e ok) (sound s e.thread e.node r.valid ok) later))
    (λ no.
    let same = refused_unchanged s e.thread e.node no in
    rw (ne_eqb t.answer done no) (subst (λ (x : State). FigureSteps x (done_of step t.state es) (after step t.state es)) same later))
