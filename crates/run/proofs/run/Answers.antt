-- `run::run` meets its contract: the part of the buffer that is lent is the saved state (`lent`), and its run is that of the state. Assumes nothing.
use Rattle.std.proofs.Common.{sym, ◌∙◌, ap}
use Rattle.number.specs.Answer.{answer_of}
use Rattle.run.specs.Run.{run, run_bytes}
use Rattle.saved.specs.Proof.Held.{laid_good}
use Rattle.run.proofs.run.Goals as goal

pub returns-in-Ok : goal.returns-in-Ok
unfolding run run_bytes
returns-in-Ok c =
    let lent = laid_good c.laid-laid.ensures.size c.laid-laid.ensures.laid in
    rw (sym c.judged_with.ensures.refusal ∙ ap answer_of c.in-Ok.is, ← lent.1, ← c.in-Ok.ensures.same) c.run_laid.ensures
