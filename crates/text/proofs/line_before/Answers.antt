-- `text::line_before`: where there is such a thread, it has a record. Assumes nothing.
use Rattle.std.proofs.Common.{rules, sym, ◌∙◌}
use Rattle.cells.specs.Proof.Good.{held}
use Rattle.event.specs.Proof.Good.{has_thread}
use Rattle.rows.specs.Rows.{Bytes}
use Rattle.text.proofs.line_before.Goals as goal

pub line-requires : goal.line-requires
line-requires c =
    let b = c.args.b.now in
    let bytes : Bytes b = search rules in
    has_thread _ _ c.requires (sym (c.no_thread.ensures _ (held b bytes c.requires)) ∙ c.if-no_thread.false)
