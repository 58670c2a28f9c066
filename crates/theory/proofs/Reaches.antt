-- Every event keeps what a reached state has: an accepted event is a step of Figure 1 (`sound`), and a refused one leaves the state. So every list of events
-- from a fresh lock leads to such a state. Rests on the step's theorems, Steps and specs/Proof/Reached. Assumes nothing.
use Rattle.std.specs.Prelude.{List, ◌++◌, ◌≡◌, eqb}
use Rattle.std.proofs.Math.Logic.{by_cases}
use Prim.Native.Nat.{ℕ}
use Rattle.std.proofs.Math.Decide.{ℕ_discrete}
use Rattle.std.proofs.Common.{eq-eqb, ne_eqb}
use Rattle.events.specs.Events.{after}
use Rattle.events.specs.declared.Event.{Event}
use Rattle.figure.specs.Figure.{line}
use Rattle.lock.specs.Fresh.{fresh_state}
use Rattle.lock.specs.Valid.{Between}
use Rattle.lock.specs.declared.State.{State}
use Rattle.number.specs.Refused.{done}
use Rattle.number.specs.Sizes.{most_nodes, most_threads}
use Rattle.number.specs.declared.NodeNo.{NodeNo}
use Rattle.number.specs.declared.ThreadNo.{ThreadNo}
use Rattle.machine.specs.Step.{step}
use Rattle.machine.specs.Theorems.{accepted_possible, refused_unchanged, valid_kept}
use Rattle.machine.proofs.Theorems.{sound}
use Rattle.theory.specs.Demands.{accepted_at, exchange_line, exchanges, passages, section_line}
use Rattle.theory.specs.Proof.Reached.{Reached, start_reached}
use Rattle.theory.proofs.Steps.{keeps}
use Rattle.theory.specs.Queue.Events.{events_keep, noted}

-- ---- one event
module _ {s : State} {exchanged passed : List ThreadNo} (r : Reached s exchanged passed) where
  -- accepted, it is a step of the figure
  accepted_reached : (t : ThreadNo) (n : NodeNo) → (step s t n).answer ≡ done
      → Reached (step s t n).state (noted (eqb (line s t) exchange_line) t exchanged) (noted (eqb (line s t) section_line) t passed)
  accepted_reached t n ok =
      let can = accepted_possible s t n r.valid ok in
      let next = (step s t n).state in
      let k = keeps r.base s t n r.valid can r.owner r.taker exchanged passed r.kept r.counts next (sound s t n r.valid ok) in
      record { valid = valid_kept s t n r.valid ok; base = r.base; owner = k.owner'; taker = k.taker'; kept = k.seen'; counts = k.counts' }

  -- refused, it leaves the state
  pub event_reached : (e : Event)
      → Reached (step s e.thread e.node).state (noted (accepted_at step exchange_line s e) e.thread exchanged)
      (noted (accepted_at step section_line s e) e.thread passed)
  event_reached e =
      by_cases (ℕ_discrete (step s e.thread e.node).answer done)
      (λ ok. rw (eq-eqb (step s e.thread e.node).answer done ok) (accepted_reached e.thread e.node ok))
      (λ no. rw (ne_eqb (step s e.thread e.node).answer done no, refused_unchanged s e.thread e.node no) r)

-- ---- events one after the other
pub events_reached : {s : State} {exchanged passed : List ThreadNo} → Reached s exchanged passed → (es : List Event)
    → Reached (after step s es) (exchanged ++ exchanges step s es) (passed ++ passages step s es)
events_reached = events_keep step exchange_line section_line Reached (λ s x y r. event_reached r)

-- from a fresh lock
pub fresh_reached : (T K : ℕ) → Between 1 T most_threads → Between 1 K most_nodes → (es : List Event)
    → let s = fresh_state T K in Reached (after step s es) (exchanges step s es) (passages step s es)
fresh_reached T K threads nodes es = events_reached (start_reached T K threads nodes) es
