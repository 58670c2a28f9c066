-- `text::end_line` meets its contract. The run leaves a saved state, that of the state that it ends in (Begun). The word and the space are stored first, and
-- the numbers behind them. Rests on Lines. Assumes nothing.
use Rattle.std.proofs.Common.{List, [], ◌∷◌, ◌++◌, ℕ, arith, ◌∙◌}
use Rattle.text.specs.Decimal.{letters, letters_from}
use Rattle.text.specs.Proof.Begun.{end_fields_lem, end_good}
use Rattle.text.specs.Proof.Lines.{made}
use Rattle.text.specs.Text.{end_line, space}
use Rattle.text.proofs.end_line.Goals as goal

-- behind the run: the bytes are a saved state
pub status_of-requires : goal.status_of-requires
status_of-requires c = (end_good _ c.args.schedule.judged c.requires c.run_events-report.ensures.leaves).0

pub waiting_of-requires : goal.waiting_of-requires
waiting_of-requires c = (end_good _ c.args.schedule.judged c.requires c.run_events-report.ensures.leaves).0

-- the word and the space
abbrev word : List ℕ
word = letters "end" ++ space ∷ []

pub returns : goal.returns
unfolding end_line letters_from
returns c =
    let put = c.put_numbers-size.ensures in
    let ran = c.run_events-report.ensures in
    made word _ (omega arith) c.put.ensures put.place put.fields
    (end_fields_lem _ c.args.schedule.judged c.requires ran.leaves ran.gives (c.from.ensures ∙ c.status_of.ensures) c.waiting_of.ensures)
