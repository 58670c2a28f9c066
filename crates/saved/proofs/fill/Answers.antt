-- `saved::fill` meets its contract: a turn of the loop fills one place more (Kinds). Assumes nothing.
use Rattle.std.proofs.Common.{arith}
use Rattle.saved.specs.Proof.Kinds.{filled_more}
use Rattle.saved.proofs.fill.Goals as goal

pub loop-i-preserved : goal.loop-i-preserved
loop-i-preserved g c K =
    filled_more _ (g.met.R.Record.laws K) c.loop-i.i c.args.b.now c.args.table.now _ _ (omega arith) (c.loop-i.invariant K) (c.from_bytes.ensures K)
