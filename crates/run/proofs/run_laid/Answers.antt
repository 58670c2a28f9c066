-- `run::run_laid` meets its contract: the bytes that the events leave are a saved state, that which they end in. Assumes nothing.
use Rattle.std.proofs.Common.{◌∙◌}
use Rattle.run.specs.Run.{ran}
use Rattle.run.specs.Saved.{end_good}
use Rattle.run.proofs.run_laid.Goals as goal

pub state_in-state-requires : goal.state_in-state-requires
state_in-state-requires c = (end_good c.args.b.now c.args.schedule.bytes.now c.requires.0 c.run_events-report.ensures.leaves).0

pub returns-clause-gives : goal.returns-clause-gives
returns-clause-gives c =
    let e = c.run_events-report.ensures in
    let end = end_good c.args.b.now c.args.schedule.bytes.now c.requires.0 e.leaves in
    λ i. ran (e.gives i) ((c.state_in-state.ensures ∙ end.1) i)
