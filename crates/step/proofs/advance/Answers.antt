-- `step::advance` meets its contract: a refusal stands for the state as it was, and the bytes after an accepted event are those of the state after it.
-- Assumes nothing.
use Rattle.std.proofs.Common.{Err, List, true, ◌≡◌, ◌∙◌, ℕ, ap, arith, sym}
use Rattle.event.specs.Event.{Advanced}
use Rattle.event.specs.Proof.Good.{again_good}
use Rattle.machine.specs.Step.{advance, stepped}
use Rattle.machine.specs.Stepped.{Stepped, stepped_from}
use Rattle.machine.specs.Theorems.{advance_is_step, refused_unchanged}
use Rattle.number.specs.Answer.{number_of, refused}
use Rattle.number.specs.declared.NodeNo.{NodeNo}
use Rattle.number.specs.declared.Refusal.{Refusal}
use Rattle.number.specs.declared.ThreadNo.{ThreadNo}
use Rattle.saved.specs.Proof.Held.{held_valid}
use Rattle.saved.specs.Saved.{saved_good, state_in}
use Rattle.step.proofs.advance.Goals as goal

refused_stays : (b : List ℕ) → saved_good b ≡ true → (t : ThreadNo) (n : NodeNo) (r : Refusal) {b' : List ℕ} → Advanced b b' t n (number_of r)
    → stepped_from (state_in b) (Err r) ≡ advance (state_in b) t n
refused_stays b good t n r told =
    let s = state_in b in
    let same = advance_is_step s t n (held_valid b good) in
    let stays = refused_unchanged s t n (λ e. refused r (told.answer ∙ ap (λ (z : Stepped). z.answer) same ∙ e)) in
    λ i. stepped (told.answer i) ((sym stays ∙ ap (λ (z : Stepped). z.state) (sym same)) i)

pub returns-in_err-event : goal.returns-in_err-event
returns-in_err-event c =
    let is : c.from_residual.result ≡ Err c.in_err-event.field-0.0 = grind arith in
    rw is (refused_stays c.args.b.now c.requires c.args.t c.args.n _ c.in_err-event.ensures)

pub state_in-requires : goal.state_in-requires
state_in-requires c = (again_good c.args.b.now c.requires c.args.t c.args.n c.event.ensures).0

pub returns : goal.returns
returns c =
    let again = again_good c.args.b.now c.requires c.args.t c.args.n c.event.ensures in
    λ i. stepped (c.in_ok-event.ensures.answer i) ((c.state_in.ensures ∙ again.1) i)
