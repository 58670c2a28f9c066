-- `ask::laid` meets its contract: the bytes that a valid state is laid in are its saved state. Assumes nothing.
use Rattle.std.proofs.Common.{arith, true, ◌≡◌}
use Rattle.lock.specs.Valid.{valid}
use Rattle.saved.specs.Proof.Held.{laid_good}
use Rattle.ask.proofs.laid.Goals as goal

pub returns : goal.returns
returns c =
    let passes : valid c.args.s ≡ true = grind arith in
    let good = laid_good c.laid.ensures.size c.laid.ensures.laid in
    (passes, record { good = good.0; state = good.1 })
