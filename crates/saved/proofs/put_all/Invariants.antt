-- The loop of `saved::put_all`: the records of the places before the one that comes next are stored. Assumes nothing.
use Rattle.std.proofs.Common.{◌≡◌, ℕ, take}
use Rattle.std.proofs.lemmas.List.Edits.{sets}
use Rattle.rows.specs.Rows.{laid}
use Rattle.saved.proofs.put_all.Given as goal

abbrev pub invariant-loop-i : goal.invariant-loop-i
invariant-loop-i g l = (K : ℕ) → l.out ≡ sets l.initial.out l.at (laid (g.R.Record.kind K) (take l.i l.table))
