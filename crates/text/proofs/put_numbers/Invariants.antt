-- `text::put_numbers`: what is left of the fields, stored from the present place on, makes the whole line.
use Rattle.std.proofs.Common.{◌≡◌, ◌+◌, drop, length}
use Rattle.std.proofs.lemmas.List.Edits.{sets}
use Rattle.text.specs.Text.{numbers}
use Rattle.text.proofs.put_numbers.Given as goal

abbrev pub invariant-loop-i : goal.invariant-loop-i
invariant-loop-i l = record {
  behind : l.place + length (numbers (drop l.i l.fields)) ≡ l.fn.at + length (numbers l.fields);
  stored : sets l.out l.place (numbers (drop l.i l.fields)) ≡ sets l.fn.out l.fn.at (numbers l.fields);
}
