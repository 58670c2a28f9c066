-- `text::put_text` meets its contract. The heading, the lines of the events and the last line are stored one behind the other, and are the text (Given).
-- Assumes nothing.
use Rattle.std.proofs.Common.{List, true, ℕ, ◌+◌, ap, arith, length, ◌∙◌}
use Rattle.text.specs.Decimal.{letters_from}
use Rattle.text.specs.Inner.{placed}
use Rattle.text.specs.Proof.Given.{text_length, text_stored}
use Rattle.text.proofs.Passes.{heading_length, lines_near}
use Rattle.text.specs.Text.{heading, last_of, lines_of}
use Rattle.text.proofs.put_text.Goals as goal

pub put-requires : goal.put-requires
put-requires c = omega (arith, c.requires.room, text_length c.args.schedule.bytes.now, heading_length)

pub event_lines-place-requires : goal.event_lines-place-requires
event_lines-place-requires c = record {
  room = λ w. omega (arith, c.requires.room, text_length c.args.schedule.bytes.now, c.put.auto.out);
}

pub put_line-requires : goal.put_line-requires
put_line-requires c =
    let b = c.args.schedule.bytes.now in
    let lines = c.event_lines-place in
    let place = lines.ensures.0 in
    record {
      within = c.requires.within;
      near = omega (arith, place, lines_near b c.args.schedule.judged);
      room = λ w. omega (arith, c.requires.room, text_length b, place, ap length c.requires.last, lines.auto.out, c.put.auto.out);
    }

pub returns : goal.returns
unfolding letters_from
returns c =
    let b = c.args.schedule.bytes.now in
    let lines = c.event_lines-place in
    let behind : ℕ = length heading + length (lines_of b) in
    c.put_line.ensures.bytes
    ∙ ap (placed true lines.new.out lines.result) c.requires.last
    ∙ ap (λ (n : ℕ). placed true lines.new.out n (last_of b)) lines.ensures.0
    ∙ ap (λ (o : List ℕ). placed true o behind (last_of b)) lines.ensures.1
    ∙ ap (λ (o : List ℕ). placed true (placed true o (length heading) (lines_of b)) behind (last_of b)) c.put.ensures
    ∙ text_stored b c.args.out.now c.requires.room
