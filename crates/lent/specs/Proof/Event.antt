-- Bytes that are not good, and the event of the state that good bytes hold: the step of what was read advances this state, so its answer is the event's, and
-- the bytes after it are those of the event's state. Assumes nothing.
use Rattle.std.specs.Prelude.{false, true, List, ◌≡◌, ℕ}
use Rattle.std.proofs.lemmas.Bool.{false≢true}
use Rattle.std.proofs.Common.{ap, sym, ◌∙◌, arith}
use Rattle.std.proofs.Math.Decide.{ℕ_discrete}
use Rattle.event.specs.Event.{Advanced}
use Rattle.lock.specs.Fresh.{Opened}
use Rattle.lock.specs.declared.State.{State}
use Rattle.machine.specs.Step.{advance, step}
use Rattle.machine.specs.Theorems.{refused_unchanged}
use Rattle.machine.specs.Stepped.{Stepped}
use Rattle.number.specs.Refused.{bad_state, done}
use Rattle.number.specs.declared.NodeNo.{NodeNo}
use Rattle.number.specs.declared.ThreadNo.{ThreadNo}
use Rattle.rows.specs.Rows.{Bytes}
use Rattle.saved.specs.Proof.Held.{good_state}
use Rattle.saved.specs.Proof.Read.{done_good, good_read}
use Rattle.saved.specs.Proof.SaveRead.{save_read}
use Rattle.saved.specs.Saved.{bytes_of, read, saved_good, state_in}
use Rattle.lent.specs.Lent.{lent_answer, lent_bytes}
use Rattle.lent.specs.Proof.Answer.{of_accepted, of_bad, of_read, of_refused}
use Rattle.lent.specs.Proof.Read.{step_advances}

-- bytes that break a rule are answered 1, and stay
pub bad_answer : (b : List ℕ) (t : ThreadNo) (n : NodeNo) → saved_good b ≡ false → lent_answer b t n ≡ bad_state
bad_answer b t n h = of_bad b t n (λ e. false≢true (sym h ∙ done_good b e))

pub bad_stays : (b : List ℕ) (t : ThreadNo) (n : NodeNo) → saved_good b ≡ false → lent_bytes b t n ≡ b
bad_stays b t n h = of_refused b t n (λ e. omega (arith, bad_answer b t n h, e))

-- ---- good bytes
module _ (b : List ℕ) (bytes : Bytes b) (t : ThreadNo) (n : NodeNo) (good : saved_good b ≡ true) where
  abbrev s : State
  s = state_in b

  opens : (read b).number ≡ done
  opens = ap (λ (o : Opened). o.number) (good_read b good)

  advances : step (read b).state t n ≡ advance s t n
  advances = step_advances b t n opens ∙ ap (λ (z : State). advance z t n) (good_state b good)

  answered : (advance s t n).answer ≡ lent_answer b t n
  answered = sym (of_read b t n opens ∙ ap (λ (r : Stepped). r.answer) advances)

  stored : bytes_of (advance s t n).state ≡ lent_bytes b t n
  stored = go (ℕ_discrete (lent_answer b t n) done)
    where
      go : Dec (lent_answer b t n ≡ done) → bytes_of (advance s t n).state ≡ lent_bytes b t n
      go (yes h) = sym (of_accepted b t n h ∙ ap (λ (r : Stepped). bytes_of r.state) advances)
      go (no h) =
          let stays = refused_unchanged (read b).state t n (λ e. h (of_read b t n opens ∙ e)) in
          ap (λ (r : Stepped). bytes_of r.state) (sym advances) ∙ ap bytes_of (stays ∙ good_state b good) ∙ save_read b bytes good ∙ sym (of_refused b t n h)

  pub advanced : {b' : List ℕ} {r : ℕ} → Advanced b b' t n r → (r ≡ lent_answer b t n) × (b' ≡ lent_bytes b t n)
  advanced told = (told.answer ∙ answered, told.bytes ∙ stored)
