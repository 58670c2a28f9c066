-- What the text promises of its lines, of its length, of what is printed and of document 01's own run: the theorems of specs/Theorems that a change of how the
-- lines go on can refute, each under a plain sentence. The arguments are beside this and in specs/Proof. Assumes nothing.
use Rattle.std.specs.Prelude.{cond, List, ◌≡◌, refl, ℕ, ◌≤◌, eqb, length, take}
use Rattle.std.proofs.Common.{arith}
use Rattle.machine.specs.Acts.{perform}
use Rattle.ask.specs.Ask.{how_many_threads_to, status, status_of, waiting}
use Rattle.events.specs.Row.{how_many_of, row_answers, row_end, stopping}
use Rattle.lines.specs.Lines.{line_at}
use Rattle.lock.specs.Fresh.{fresh, idle_to}
use Rattle.lock.specs.Valid.{nodes_valid, shared_valid, threads_valid, valid}
use Rattle.number.specs.Refused.{done}
use Rattle.machine.specs.Refusals.{refusal}
use Rattle.rows.specs.Rows.{Bytes, laid, values}
use Rattle.run.specs.Run.{ran_over, report_of}
use Rattle.schedule.specs.Schedule.{GoodSchedule, events_of, schedule_of}
use Rattle.schedule.specs.Theorems.{good_schedule}
use Rattle.machine.specs.Step.{advance}
use Rattle.word.specs.Word.{alone_in, in_use, put_in, take_out}
use Rattle.text.specs.Decimal.{decimal, decimal_to, letters_from}
use Rattle.text.specs.Proof.Given
use Rattle.text.proofs.Sizes
use Rattle.text.proofs.EventLines
use Rattle.text.specs.Shown.{fields_of, lines_with, page, whole_run, whole_text}
use Rattle.text.specs.Text.{begin, end_line, event_line, event_lines, line_before, lines_of, most_text, numbers, printed}
use Rattle.text.specs.Text.{refused_text, text, text_bytes, text_number, text_of}

-- ---- the lines of the events of schedule b
module _ (b : List ℕ) where
  -- They are the lines of these fields.
  pub text_lines : lines_of b ≡ lines_with (fields_of b)
  text_lines = EventLines.lines_shown 1 (begin b) (events_of b)

  -- ---- how long a text can be
  module _ (bytes : Bytes b) (rule : GoodSchedule b) where
    -- The text of a good schedule has at most 606,235 bytes ..
    pub text_fits : length (text_of b) ≤ most_text
    text_fits = Sizes.text_short b bytes ((good_schedule b).1 rule)

    -- .. so that a buffer of so many bytes, or more, is never too short.
    pub never_short : (room : ℕ) → most_text ≤ room → text_number b room ≡ done
    never_short room l = Given.number_done b room ((good_schedule b).1 rule) (omega (arith, text_fits, l))

-- ---- the printing program

-- With room for any text, what the program writes, the text where the number is 0 and `refused 2` where it is not, is what document 01 says is printed.
pub prints : (b out : List ℕ) → Bytes b → most_text ≤ length out
    → cond (eqb (text b out).number done) (take (text b out).size (text_bytes b out)) refused_text ≡ printed b
prints b out bytes room = Given.prints b out (λ h. omega (arith, text_fits b bytes ((good_schedule b).0 h), room))

-- ---- document 01's run

-- "T = K = 1, events (1,1), (1,0), (1,0), (1,0), (2,0)": its text is document 01's, line by line. (The one `unfolding` line names what it computes by.)
pub whole_run_lem : text_of whole_run ≡ page whole_text
unfolding text_of page letters_from event_lines event_line line_before numbers decimal decimal_to end_line events_of values schedule_of laid fresh idle_to
    advance refusal line_at in_use alone_in put_in take_out perform ran_over report_of row_answers row_end how_many_of stopping
    status status_of waiting how_many_threads_to valid shared_valid nodes_valid threads_valid
whole_run_lem = refl
