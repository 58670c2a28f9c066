-- `saved::put_fresh` meets its contract. The header and the copies of the two records are stored one behind the other, and are the whole (Fresh).
-- Assumes nothing.
use Rattle.saved.specs.Proof.Fresh.{stored_fresh}
use Rattle.saved.proofs.put_fresh.Goals as goal

pub returns : goal.returns
returns c =
    let K = c.args.nodes in
    rw (
      c.put_times-2.ensures,
      c.threads_place.ensures,
      c.to_bytes-thread.ensures K,
      c.idle_thread.ensures,
      c.put_times.ensures,
      c.to_bytes-node.ensures K,
      c.zero_node.ensures,
      c.put.ensures,
      c.header_bytes-header.ensures,
      c.fresh_shared.ensures,
    )
    (stored_fresh c.args.threads K c.requires.0 c.args.out.now c.requires.1)
