-- The loop of `show::read_all`: no more was read than there is room for. The measure is the room that is left. Assumes nothing.
use Rattle.std.proofs.Common.{◌-◌, ◌≤◌, length}
use Rattle.show.proofs.read_all.Given as goal

abbrev pub invariant-loop-filled : goal.invariant-loop-filled
invariant-loop-filled l = l.filled ≤ length l.input

abbrev pub decreases-loop-filled : goal.decreases-loop-filled
decreases-loop-filled l = length l.input - l.filled
