-- The loop of `saved::fill`: the places before the one that comes next hold what their records say. Assumes nothing.
use Rattle.std.proofs.Common.{◌≡◌, ◌++◌, ℕ, drop}
use Rattle.rows.specs.Rows.{values}
use Rattle.saved.proofs.fill.Given as goal

abbrev pub invariant-loop-i : goal.invariant-loop-i
invariant-loop-i g l = (K : ℕ) → l.table ≡ values (g.R.Record.kind K) l.i l.b ++ drop l.i l.initial.table
