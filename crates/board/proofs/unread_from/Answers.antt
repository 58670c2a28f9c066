-- `board::unread_from` meets its contract: what is handed back is what follows that many bytes of the schedule, so it is shorter by that many.
-- Assumes nothing.
use Rattle.std.proofs.Common.{ap, arith, length, length-drop, ◌-◌, ◌≡◌, ◌∙◌}
use Rattle.run.specs.Run.{unread_from}
use Rattle.run.specs.Theorems.{unread_part}
use Rattle.board.proofs.unread_from.Goals as goal

pub returns : goal.returns
returns c =
    let a = c.args in
    let from = unread_from a.schedule.now a.report in
    -- how long what is handed back is
    let left : length c.unread-part.result.now ≡ length a.schedule.now - from = ap length c.unread-part.ensures.bytes ∙ length-drop from _ in
    omega (arith, left, unread_part a.schedule.now a.report)
