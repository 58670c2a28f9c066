-- `text::event_line` meets its contract. Its eight fields are those of the definition, as the bytes hold the state that is read from them. Rests on Lines.
-- Assumes nothing.
use Rattle.std.proofs.Common.{[], arith, refl, rules}
use Rattle.cells.specs.Proof.Good.{held}
use Rattle.rows.specs.Rows.{Bytes}
use Rattle.text.specs.Proof.Lines.{made}
use Rattle.text.specs.Text.{event_line}
use Rattle.text.proofs.event_line.Goals as goal

pub returns : goal.returns
unfolding event_line
returns c s before =
    let b = c.args.b.now in
    let bytes : Bytes b = search rules in
    let here = held b bytes c.requires in
    let put = c.put_numbers-size.ensures in
    rw (← before, ← c.tail.ensures _ here, ← c.flag.ensures _ here, ← c.low.ensures _ here, ← c.high.ensures _ here)
    (made [] _ (omega arith) refl put.place put.fields refl)
