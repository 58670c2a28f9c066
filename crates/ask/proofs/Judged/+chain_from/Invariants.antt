-- The recursion of `ask::Judged::chain_from`: the measure is the number of nodes that are left. Assumes nothing.
use Rattle.ask.proofs.Judged.+chain_from.Given as goal

abbrev pub decreases-chain_from : goal.decreases-chain_from
decreases-chain_from l = l.left
