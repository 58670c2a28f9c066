-- The nodes in use: in a valid state no bit from K up is set, so that the nodes past K add nothing to the number of ones. Rests on the laws of the
-- word. Assumes nothing.
use Rattle.std.specs.Prelude.{true, ◌≡◌, refl, ℕ, zero, suc, ◌≤◌}
use Rattle.std.proofs.Common.{ap, ◌∙◌, arith}
use Rattle.std.proofs.Math.Decide.{le_ind}
use Rattle.lock.specs.Valid.{Valid}
use Rattle.lock.specs.declared.State.{State}
use Rattle.number.specs.Numbers.{node}
use Rattle.number.specs.Sizes.{most_nodes}
use Rattle.word.specs.Laws.{from_none, none_in}
use Rattle.word.specs.Word.{how_many_to, in_use, none_from}
use Rattle.ask.specs.Ask.{answered, nodes_in_use}
use Rattle.ask.specs.Proof.Answer.{judged_valid}
use Rattle.ask.specs.Proof.Count.{at_most_one}

-- At most k of the nodes 1 to k are in use.
pub nodes_at_most : (k w : ℕ) → how_many_to k w ≤ k
unfolding how_many_to
nodes_at_most zero w = omega arith
nodes_at_most (suc k) w = omega (arith, nodes_at_most k w, at_most_one (in_use w (node (suc k))))

-- of a word with no bit from k up, the nodes past k add nothing
none_past : (w k : ℕ) → none_from w k ≡ true → (m : ℕ) → k ≤ m → how_many_to m w ≡ how_many_to k w
unfolding how_many_to
none_past w k h =
    le_ind (λ m. how_many_to m w ≡ how_many_to k w) refl (λ m l e. rw (e, none_in w k h (node (suc m)) (omega arith)) (omega arith))

-- In a valid state the value is how many of the nodes 1 to K are in use.
pub in_use_nodes : (s : State) → Valid s → nodes_in_use s ≡ answered (how_many_to s.shared.nodes s.shared.used)
unfolding nodes_in_use
in_use_nodes s rule =
    let w = s.shared.used in
    let K = s.shared.nodes in
    judged_valid s _ rule ∙ ap answered (none_past w K (from_none w K rule.shared.used) most_nodes rule.shared.nodes.to)
