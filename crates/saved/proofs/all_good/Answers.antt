-- `saved::all_good` meets its contract: a turn of the loop judges one record more (Kinds). Assumes nothing.
use Rattle.saved.specs.Proof.Kinds.{judged_more}
use Rattle.saved.proofs.all_good.Goals as goal

pub loop-i-preserved : goal.loop-i-preserved
loop-i-preserved g c =
    rw (c.is_good-ok.ensures, c.loop-i.invariant) (judged_more _ (g.met.R.Record.laws c.args.nodes) c.loop-i.i c.args.b.now)
