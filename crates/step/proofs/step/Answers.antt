-- `step::step` meets its contract: the part of the buffer that is lent is the saved state of a valid state. Assumes nothing.
use Rattle.std.proofs.Common.{true, ◌≡◌, ◌∙◌, arith, sym, take}
use Rattle.machine.specs.Step.{step}
use Rattle.saved.specs.Proof.Held.{laid_good}
use Rattle.saved.specs.Saved.{state_in}
use Rattle.step.proofs.step.Goals as goal

pub returns : goal.returns
unfolding step
returns c =
    let laid = c.laid-laid.ensures in
    let lent : state_in (take c.laid-laid.result.size c.laid-laid.result.bytes) ≡ c.args.s = (laid_good laid.size laid.laid).1 in
    let good : c.valid.result ≡ true = grind arith in
    rw (sym c.valid.ensures ∙ good, ← lent) c.advance.ensures
