-- `saved::put_all` meets its contract: a turn of the loop stores one record more (Kinds). Assumes nothing.
use Rattle.std.proofs.Common.{◌∙◌, refl}
use Rattle.rows.specs.Rows.{laid}
use Rattle.saved.specs.Proof.Kinds.{stored_more}
use Rattle.saved.proofs.put_all.Goals as goal

pub loop-i-init : goal.loop-i-init
unfolding laid
loop-i-init g c K = refl

pub loop-i-preserved : goal.loop-i-preserved
loop-i-preserved g c K =
    c.put.ensures
    ∙ stored_more _ (g.met.R.Record.laws K) c.args.out.now _ c.args.at c.loop-i.i c.args.table.now _ _ c.loop-i-test.true (c.loop-i.invariant K)
    c.index-table-i.is (c.to_bytes.ensures K)
