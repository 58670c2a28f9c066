-- `ask::Judged::new` makes what its ghost fields say of good bytes. Assumes nothing.
use Rattle.cells.specs.Proof.Good.{held, laid}
use Rattle.saved.specs.Proof.Held.{held_valid}
use Rattle.ask.proofs.Judged.new.Goals as goal

pub invariant_of-result : goal.invariant_of-result
invariant_of-result c =
    let b = c.args.bytes.now in
    record { laid = laid b c.requires; held = held b (λ i. (c.type_inv.bytes i).fits) c.requires; rule = held_valid b c.requires }
