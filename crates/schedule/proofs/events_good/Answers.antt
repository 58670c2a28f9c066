-- `schedule::events_good` meets its contract: `fold` goes over the records behind the heading, and tests the
-- mark of each. Rests on Chunks. Assumes nothing.
use Rattle.std.proofs.Common.{arith, drop, length, length-drop, rules, take_all, tests}
use Rattle.std.proofs.Common.{true, ◌-◌, ◌/◌, ◌∙◌}
use Rattle.std.proofs.lemmas.Iterator.Consumers.{fold_from_yields_List}
use Rattle.std.specs.Simd.{first_chunks}
use Rattle.schedule.proofs.Chunks.{folded, mark_more, marks_lem, records_of}
use Rattle.schedule.specs.Schedule.{events_good, events_in, width}
use Rattle.schedule.proofs.events_good.Goals as goal

pub returns : goal.returns
unfolding events_good
returns c =
    let b = c.args.schedule.now in
    let behind = drop width b in
    let all_of = take_all (length b - width) behind (omega (arith, length-drop width b)) in
    let exact = c.chunks_exact.ensures in
    let yields = records_of {s = c.chunks_exact.result} behind (exact.rest ∙ all_of) exact.size in
    fold_from_yields_List _ mark_more true _ c.fold.ensures.ran yields (λ a x b q k. search (rules, tests))
    ∙ folded true (first_chunks width (length behind / width) behind)
    ∙ rw (length-drop width b) (marks_lem (events_in b) behind)
