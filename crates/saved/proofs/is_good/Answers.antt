-- `saved::is_good` meets its contract, by what a kind of record owes (Kinds). Assumes nothing.
use Rattle.std.proofs.Common.{arith}
use Rattle.saved.proofs.is_good.Goals as goal

pub marked-requires : goal.marked-requires
marked-requires g c = omega (arith, (g.met.R.Record.laws 0).marked)
