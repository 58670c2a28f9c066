-- `ask::Judged::chain` meets its contract: its two tests, in their order, and else `chain_from` writes the list. Rests on Answer. Assumes nothing.
use Rattle.std.specs.Prelude.{ltb}
use Rattle.std.proofs.Common.{false, true, ◌≡◌, ap, arith, length, ltb-false, ltb-true, ◌∙◌}
use Rattle.number.specs.Refused.{too_short, wrong_node}
use Rattle.saved.specs.Saved.{state_in}
use Rattle.ask.specs.Ask.{answered, is_outside, refused}
use Rattle.ask.specs.Asked.{asked_of}
use Rattle.ask.specs.Proof.Answer.{chain_given, chain_outside, chain_short}
use Rattle.ask.proofs.Judged.chain.Goals as goal

pub returns-in_err-refuse : goal.returns-in_err-refuse
returns-in_err-refuse c =
    let a = c.args in
    let number : asked_of c.from_residual.result ≡ refused too_short = grind arith in
    let short : ltb (length a.out.now) c.nodes-nodes.result ≡ true = grind arith in
    let e = c.nodes-nodes.ensures _ a.self.held in
    rw number (chain_short _ a.from a.out.now a.self.rule (ltb-true _ _ (rw e at short)))

pub returns-in_err-refuse-2 : goal.returns-in_err-refuse-2
returns-in_err-refuse-2 c =
    let a = c.args in
    let number : asked_of c.from_residual-in_err-refuse-2.result ≡ refused wrong_node = grind arith in
    let room : ltb (length a.out.now) c.nodes-nodes.result ≡ false = grind arith in
    let off : is_outside c.nodes-nodes.result a.from ≡ true = grind arith in
    let e = c.nodes-nodes.ensures _ a.self.held in
    rw number (chain_outside _ a.from a.out.now a.self.rule (ltb-false _ _ (rw e at room)) (rw e at off))

pub returns : goal.returns
returns c =
    let a = c.args in
    let room : ltb (length a.out.now) c.nodes-nodes.result ≡ false = grind arith in
    let on : is_outside c.nodes-nodes.result a.from ≡ false = grind arith in
    let e = c.nodes-nodes.ensures _ a.self.held in
    let given = chain_given (state_in a.self.bytes.now) a.from a.out.now a.self.rule (ltb-false _ _ (rw e at room)) (rw e at on) in
    let written = rw e at c.chain_from.ensures in
    (ap answered written.0 ∙ given.0, written.1 ∙ given.1)
