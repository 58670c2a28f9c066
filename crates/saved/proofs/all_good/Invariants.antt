-- The loop of `saved::all_good`: `ok` says whether the first i records are good. Assumes nothing.
use Rattle.std.proofs.Common.{◌≡◌}
use Rattle.rows.specs.Rows.{all_good}
use Rattle.saved.proofs.all_good.Given as goal

abbrev pub invariant-loop-i : goal.invariant-loop-i
invariant-loop-i g l = l.ok ≡ all_good (g.R.Record.kind l.nodes) l.i l.b
