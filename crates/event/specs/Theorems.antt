-- What an event that is executed in place promises: the theorem that a buyer needs, under a plain sentence. The arguments are in Proof. Assumes nothing.
use Rattle.std.specs.Prelude.{List, ◌≡◌, ℕ}
use Rattle.std.proofs.Common.{ap, ◌∙◌}
use Rattle.lock.specs.Fresh.{Opened}
use Rattle.lock.specs.declared.State.{State}
use Rattle.machine.specs.Step.{advance, stepped}
use Rattle.number.specs.Refused.{done}
use Rattle.number.specs.declared.NodeNo.{NodeNo}
use Rattle.number.specs.declared.ThreadNo.{ThreadNo}
use Rattle.saved.specs.Proof.Held.{good_state}
use Rattle.saved.specs.Proof.Read.{done_good, good_read}
use Rattle.saved.specs.Saved.{read}
use Rattle.event.specs.Event.{Advanced}
use Rattle.event.specs.Proof.Good.{again_good}

-- An event on a saved state that stays where it stands, by which a run's loop takes its events, is the inner step of the state that was read, and leaves bytes
-- that are read as the state after it.
pub in_place : (b : List ℕ) (t : ThreadNo) (n : NodeNo) {b' : List ℕ} {r : ℕ} → (read b).number ≡ done → Advanced b b' t n r
    → ((read b').number ≡ done) × (stepped r (read b').state ≡ advance (read b).state t n)
in_place b t n {b'} {r} h told =
    let good = done_good b h in
    let again = again_good b good t n told in
    let was : advance (read b).state t n ≡ advance _ t n = ap (λ (s : State). advance s t n) (good_state b good) in
    (ap (λ (o : Opened). o.number) (good_read b' again.0), rw was (λ i. stepped (told.answer i) ((good_state b' again.0 ∙ again.1) i)))
