-- `ask::Judged::chain_from` meets its contract. Node k stands first in the output, and the chain of its next is written to the rest of it. Rests on Chain.
-- Assumes nothing.
use Rattle.std.proofs.Common.{◌≢◌, refl, ◌-◌, arith}
use Rattle.cells.specs.Proof.Laws.{nodes_same}
use Rattle.saved.specs.Saved.{state_in}
use Rattle.ask.specs.Ask.{chain_from, next}
use Rattle.ask.specs.Proof.Chain.{chain_short, ends_here, goes_on_lem, not_here, over_after}
use Rattle.ask.proofs.Judged.+chain_from.Goals as goal

pub returns-then-left-is_bottom : goal.returns-then-left-is_bottom
returns-then-left-is_bottom t c =
    let a = c.args in
    rw (ends_here (state_in a.self.bytes.now) a.left a.k (rw c.is_bottom.ensures at c.if-left-is_bottom.true)) (refl, refl)

pub next-next-requires : goal.next-next-requires
next-next-requires t c =
    let a = c.args in
    let on : (a.left ≢ 0) × (a.k.0 ≢ 0) = not_here (state_in a.self.bytes.now) (rw c.is_bottom.ensures at c.if-left-is_bottom.false) in
    record { laid = a.self.laid; from = omega arith; to = omega (arith, c.requires, nodes_same _ _ a.self.held) }

pub overflow_add-result : goal.overflow_add-result
overflow_add-result t c =
    let a = c.args in
    let on : (a.left ≢ 0) × (a.k.0 ≢ 0) = not_here (state_in a.self.bytes.now) (rw c.is_bottom.ensures at c.if-left-is_bottom.false) in
    let short = chain_short (state_in a.self.bytes.now) (a.left - 1) c.next-next.result in
    omega (arith, c.chain_from.ensures.0, short, c.ranges.left)

pub returns : goal.returns
returns t c =
    let a = c.args in
    let s = state_in a.self.bytes.now in
    let on : (a.left ≢ 0) × (a.k.0 ≢ 0) = not_here s (rw c.is_bottom.ensures at c.if-left-is_bottom.false) in
    let linked = c.next-next.ensures _ a.self.held in
    let rest = simp linked at c.chain_from.ensures in
    rw (goes_on_lem s a.left a.k on.0 on.1)
    (omega (arith, rest.0), rw rest.1 (over_after a.k.0 (chain_from (a.left - 1) s (next s a.k)) a.out.now (omega arith)))
