-- `text::text` meets its contract. A pass that does not write leaves the buffer, and with the last line it says how long the text is; each return is one
-- case of the call's number (Given). Assumes nothing.
use Rattle.std.specs.Borrow.{Bor}
use Rattle.std.proofs.Common.{Bool, List, cond, false, refl, true, ◌≡◌, ℕ, ◌+◌, ◌≤◌, ap, arith, length, ltb, ltb-false, ltb-true, sym, ◌∙◌}
use Rattle.number.specs.Answer.{number_of, refused}
use Rattle.number.specs.declared.Refusal.{Refusal}
use Rattle.number.specs.Refused.{bad_schedule, done, too_short}
use Rattle.rows.specs.Rows.{over}
use Rattle.schedule.specs.Schedule.{good}
use Rattle.text.specs.Inner.{Passed, placed}
use Rattle.text.specs.Proof.Given.{bad, fits, short, text_length}
use Rattle.text.proofs.Passes.{lines_near}
use Rattle.text.specs.Text.{last_of, text_bytes, text_of, written}
use Rattle.text.specs.Text.{text as given}
use Rattle.text.specs.Written.{written_of}
use Rattle.text.proofs.text.Goals.{In_err-refuse, In_ok-refuse}
use Rattle.text.proofs.text.Goals as goal

-- ---- where the schedule is bad
refused_lem : (g : Bool) (r : Refusal) → number_of r ≡ cond g done bad_schedule → (g ≡ false) × (number_of r ≡ bad_schedule)
refused_lem true r e = absurd (refused r e)
refused_lem false r e = (refl, e)

pub returns-in_err-judged-clause-gives : goal.returns-in_err-judged-clause-gives
returns-in_err-judged-clause-gives c =
    let told = refused_lem (good c.args.schedule.now) c.in_err-judged.field-0.0 c.in_err-judged.ensures.judged in
    let number : written_of c.from_residual.result ≡ written (number_of c.in_err-judged.field-0.0) 0 = grind arith in
    number ∙ ap (λ (n : ℕ). written n 0) told.1 ∙ sym (bad c.args.schedule.now c.args.out.now told.0).0

pub returns-in_err-judged-clause-stores : goal.returns-in_err-judged-clause-stores
returns-in_err-judged-clause-stores c =
    let told = refused_lem (good c.args.schedule.now) c.in_err-judged.field-0.0 c.in_err-judged.ensures.judged in
    sym (bad c.args.schedule.now c.args.out.now told.0).1

-- ---- where it is good, and the text is measured by a pass that does not write
pub overflow_add-size : goal.overflow_add-size
overflow_add-size c =
    omega (arith, c.event_lines.ensures.0, lines_near c.in_ok-judged.judged.bytes.now c.in_ok-judged.judged.judged, c.part-line.ensures.fits)

module _ (b out out' last : List ℕ) (place : ℕ) (passed : Passed false b out out' place) (made : last ≡ last_of b)
    (rule : good b ≡ true) where
  -- how long it is
  measured : place + length last ≡ length (text_of b)
  measured = omega (arith, text_length b, passed.0, ap length made)

  -- and the buffer is as it was
  unchanged : out' ≡ out
  unfolding placed
  unchanged = passed.1

  where_short : ltb (length out') (place + length last) ≡ true → (written too_short 0 ≡ given b out) × (out' ≡ text_bytes b out)
  where_short h =
      let l = short b out rule (omega (arith, ltb-true _ _ h, measured, ap length unchanged)) in
      (sym l.0, unchanged ∙ sym l.1)

  where_long_enough : ltb (length out') (place + length last) ≡ false
      → (length (text_of b) ≤ length out') × (written done (place + length last) ≡ given b out) × (over (text_of b) out' ≡ text_bytes b out)
  where_long_enough h =
      let l = fits b out rule (omega (arith, ltb-false _ _ h, measured, ap length unchanged)) in
      (omega (arith, ltb-false _ _ h, measured), ap (written done) measured ∙ sym l.0, ap (over (text_of b)) unchanged ∙ sym l.1)

-- the buffer is too short
too-short : (c : In_err-refuse) → let schedule = c.args.schedule.now in let out = c.args.out.now in
    (written too_short 0 ≡ given schedule out) × (c.event_lines.new.out ≡ text_bytes schedule out)
too-short c =
    let is-short : ltb (length c.event_lines.new.out) (c.event_lines.result + length c.part-line.result.now) ≡ true = grind arith in
    rw (ap (λ (s : Bor (List ℕ)). s.now) c.in_ok-judged.ensures.same)
    at (where_short _ _ _ _ _ c.event_lines.ensures (c.part-line.ensures.value ∙ c.last_line-last.ensures) c.in_ok-judged.judged.judged is-short)

pub returns-in_err-refuse-clause-gives : goal.returns-in_err-refuse-clause-gives
returns-in_err-refuse-clause-gives c =
    let number : written_of c.from_residual-in_err-refuse.result ≡ written too_short 0 = grind arith in
    number ∙ (too-short (goal.at.returns-in_err-refuse-clause-gives c).In_err-refuse).0

pub returns-in_err-refuse-clause-stores : goal.returns-in_err-refuse-clause-stores
returns-in_err-refuse-clause-stores c = (too-short (goal.at.returns-in_err-refuse-clause-stores c).In_err-refuse).1

-- it is long enough
long-enough : (c : In_ok-refuse) → let b = c.in_ok-judged.judged.bytes.now in let out = c.event_lines.new.out in
    (length (text_of b) ≤ length out) × (written done (c.event_lines.result + length c.part-line.result.now) ≡ given c.args.schedule.now c.args.out.now)
    × (over (text_of b) out ≡ text_bytes c.args.schedule.now c.args.out.now)
long-enough c =
    let is-long : ltb (length c.event_lines.new.out) (c.event_lines.result + length c.part-line.result.now) ≡ false = grind arith in
    let same = c.in_ok-judged.ensures.same in
    let l = where_long_enough _ _ _ _ _ c.event_lines.ensures (c.part-line.ensures.value ∙ c.last_line-last.ensures) c.in_ok-judged.judged.judged is-long in
    (l.0, l.1 ∙ ap (λ (s : Bor (List ℕ)). given s.now c.args.out.now) same, l.2 ∙ ap (λ (s : Bor (List ℕ)). text_bytes s.now c.args.out.now) same)

pub put_text-requires : goal.put_text-requires
put_text-requires c = record {
  last = c.part-line.ensures.value ∙ c.last_line-last.ensures;
  within = c.part-line.ensures.fits;
  room = (long-enough (goal.at.put_text-requires c).In_ok-refuse).0;
}

pub returns-clause-gives : goal.returns-clause-gives
returns-clause-gives c = (long-enough (goal.at.returns-clause-gives c).In_ok-refuse).1

pub returns-clause-stores : goal.returns-clause-stores
returns-clause-stores c = c.put_text.ensures ∙ (long-enough (goal.at.returns-clause-stores c).In_ok-refuse).2
