-- `text::pass` meets its contract: an event's turn keeps what is left of the lines. Rests on Passes, and on what an event leaves (crate `event`, Good).
-- Assumes nothing.
use Rattle.std.proofs.Common.{arith, sym, ◌∙◌}
use Rattle.event.specs.Proof.Good.{again_good}
use Rattle.machine.specs.Step.{stepped}
use Rattle.saved.specs.Saved.{state_in}
use Rattle.schedule.specs.Theorems.{few_events, length_events}
use Rattle.text.specs.Proof.Begun.{first_good}
use Rattle.text.proofs.Passes.{Turn, at_the_end, goes_on_lem, heading_length, has_room, start, stops}
use Rattle.text.proofs.pass.Goals.{After-answer_number-answer}
use Rattle.text.proofs.pass.Goals as goal

pub loop-i-init : goal.loop-i-init
loop-i-init c =
    let a = c.args in
    let fresh = first_good a.schedule.bytes.now c.args.schedule.judged c.requires.0 in
    record { left = start a.write a.schedule.bytes.now a.out.now (state_in a.b.now) 40 fresh.1 (sym heading_length); good = fresh.0 }

pub overflow_cast-i : goal.overflow_cast-i
overflow_cast-i c = omega (arith, few_events c.args.schedule.bytes.now c.args.schedule.judged)

-- what is known of the event that was answered, the one behind the first i
turn : (c : After-answer_number-answer) → let l = c.loop-i in
    Turn c.args.schedule.bytes.now (state_in l.b) l.i c.event-e.result (stepped c.answer_number-answer.result (state_in c.event.new.b))
turn c =
    let told = c.event.ensures in
    record {
      inside = omega (arith, c.len-i-end.ensures, c.loop-i-test.true, length_events c.args.schedule.bytes.now);
      here = c.event-e.ensures;
      gives = λ j. stepped ((c.answer_number-answer.ensures ∙ told.answer) j) ((again_good _ c.loop-i.invariant.good _ _ told).1 j);
    }

pub event_line-line-requires : goal.event_line-line-requires
event_line-line-requires c = (again_good _ c.loop-i.invariant.good _ _ c.event.ensures).0

pub put_line-place-requires : goal.put_line-place-requires
put_line-place-requires c =
    let here = turn (goal.at.put_line-place-requires c).After-answer_number-answer in
    has_room c.loop-i.invariant.left here (c.part.ensures.value ∙ c.event_line-line.ensures _ c.line_before-before.ensures) c.part.ensures.fits c.args.schedule.judged c.requires.1

pub returns-then-not-goes_on : goal.returns-then-not-goes_on
returns-then-not-goes_on c =
    let here = turn (goal.at.returns-then-not-goes_on c).After-answer_number-answer in
    let put = c.put_line-place.ensures in
    stops c.loop-i.invariant.left here (c.part.ensures.value ∙ c.event_line-line.ensures _ c.line_before-before.ensures) _ _ (put.place, put.bytes)
    (sym c.goes_on.ensures ∙ c.if-not-goes_on.true)

pub loop-i-preserved : goal.loop-i-preserved
loop-i-preserved c =
    let here = turn (goal.at.loop-i-preserved c).After-answer_number-answer in
    let put = c.put_line-place.ensures in
    record {
      left =
          goes_on_lem c.loop-i.invariant.left here (c.part.ensures.value ∙ c.event_line-line.ensures _ c.line_before-before.ensures) _ _ (put.place, put.bytes)
          (sym c.goes_on.ensures ∙ c.if-not-goes_on.false);
      good = (again_good _ c.loop-i.invariant.good _ _ c.event.ensures).0;
    }

-- behind the last event
pub returns : goal.returns
returns c = at_the_end c.loop-i.invariant.left (omega (arith, length_events c.args.schedule.bytes.now))
