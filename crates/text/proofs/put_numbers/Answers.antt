-- `text::put_numbers` meets its contract. The field that is about to be stored comes first of those that are left. Rests on Lines. Assumes nothing.
use Rattle.std.proofs.Common.{List, [], ◌∷◌, ◌++◌, ◌≡◌, ℕ, ◌+◌, ◌<◌, ap, arith, cond, drop, get_or, length, length-append, ltb, sym, ◌∙◌}
use Rattle.std.proofs.Math.Seq.{drop-length}
use Rattle.std.proofs.lemmas.List.Edits.{sets}
use Rattle.rows.specs.Stored.{sets_append}
use Rattle.text.specs.Decimal.{decimal}
use Rattle.text.specs.Proof.Lines.{numbers_from, numbers_none}
use Rattle.text.specs.Text.{line_end, numbers, space}
use Rattle.text.proofs.put_numbers.Goals as goal

-- how long those that are left are, with the byte x behind the first of them
lengths : (ns : List ℕ) (i x : ℕ) → i < length ns → x ≡ cond (ltb (i + 1) (length ns)) space line_end
    → length (numbers (drop i ns)) ≡ length (decimal (get_or ns i 0)) + 1 + length (numbers (drop (i + 1) ns))
lengths ns i x h e = simp length-append at (ap length (numbers_from ns i x h e))

-- nothing is left behind the last
nothing : (ns : List ℕ) (i : ℕ) → i ≡ length ns → numbers (drop i ns) ≡ []
nothing ns i all = ap (λ (k : ℕ). numbers (drop k ns)) all ∙ ap numbers (drop-length ns) ∙ numbers_none

pub put_field-place-requires : goal.put_field-place-requires
put_field-place-requires c =
    omega (arith, lengths c.args.fields.now c.loop-i.i c.separator.result c.loop-i-test.true c.separator.ensures)

pub loop-i-preserved : goal.loop-i-preserved
loop-i-preserved c =
    let ns = c.args.fields.now in
    let l = c.loop-i in
    let put = c.put_field-place.ensures in
    let stored : List ℕ = decimal (get_or ns l.i 0) ++ c.separator.result ∷ [] in
    let rest = numbers (drop (l.i + 1) ns) in
    let behind : c.put_field-place.result ≡ l.place + length stored =
    omega (arith, put.place, length-append (decimal (get_or ns l.i 0)) (c.separator.result ∷ [])) in
    record {
      behind = omega (arith, lengths ns l.i c.separator.result c.loop-i-test.true c.separator.ensures);
      stored =
          rw (put.field, behind)
          (sym (sets_append l.out l.place stored rest)
          ∙ ap (sets l.out l.place) (sym (numbers_from ns l.i c.separator.result c.loop-i-test.true c.separator.ensures))
          ∙ l.invariant.stored);
    }

pub returns-clause-place : goal.returns-clause-place
returns-clause-place c = omega (arith, ap length (nothing c.args.fields.now c.loop-i.i (omega arith)))

pub returns-clause-fields : goal.returns-clause-fields
returns-clause-fields c = rw (nothing c.args.fields.now c.loop-i.i (omega arith)) at c.loop-i.invariant.stored
