-- `lent::step_saved` meets its contract, by what `good` and `event` ensure. Assumes nothing.
use Rattle.std.proofs.Common.{true, ◌≡◌, ◌∙◌, arith, rules, sym}
use Rattle.lent.specs.Proof.Event.{advanced}
use Rattle.rows.specs.Rows.{Bytes}
use Rattle.lent.proofs.step_saved.Goals as goal

pub returns : goal.returns
returns c =
    let b = c.args.bytes.now in
    let bytes : Bytes b = search rules in
    let good : c.good.result ≡ true = grind arith in
    advanced b bytes c.args.t c.args.n (sym c.good.ensures ∙ good) c.event.ensures
