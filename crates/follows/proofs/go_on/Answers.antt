-- `follows::go_on` meets its contract: where the line waits for a number of its node, that node has a record. Assumes nothing.
use Rattle.refusals.specs.Arms.{has_followed}
use Rattle.refusals.specs.Laws.{at_node}
use Rattle.follows.proofs.go_on.Goals as goal

pub wait_stop-requires : goal.wait_stop-requires
wait_stop-requires c =
    let (ready, asked) = c.requires in
    (ready.has.laid, at_node c.args.row.1 (λ strict. has_followed ready c.in_ok-k.ensures strict) asked)
