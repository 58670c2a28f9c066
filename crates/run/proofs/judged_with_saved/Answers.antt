-- `run::judged_with_saved` meets its contract: the state that good bytes hold is valid and has the T and K that they show. Assumes nothing.
use Rattle.std.proofs.Common.{rules, true, ◌≡◌, ◌∙◌}
use Rattle.cells.specs.Proof.Good.{held}
use Rattle.rows.specs.Rows.{Bytes}
use Rattle.run.specs.Run.{refusal}
use Rattle.saved.specs.Proof.Held.{good_state, good_valid}
use Rattle.saved.specs.Saved.{saved_good}
use Rattle.run.proofs.judged_with_saved.Goals as goal

pub returns-clause-refusal : goal.returns-clause-refusal
unfolding refusal
returns-clause-refusal c =
    let b = c.args.bytes.now in
    let bytes : Bytes b = search rules in
    let good : saved_good b ≡ true = search rules in
    let holds = held b bytes good in
    c.judged.ensures.refusal ∙ rw (c.nodes.ensures _ holds, c.threads.ensures _ holds, good_valid b good, good_state b good)
