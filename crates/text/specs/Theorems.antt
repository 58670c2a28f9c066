-- What the text promises, each under a plain sentence. First that numbers are written as everybody writes them; then what the call gives in each case;
-- then what the fields of the lines show. The arguments are in Proof. Assumes nothing.
-- `text_lines`, `text_fits`, `never_short`, `prints` and `whole_run_lem`, what the lines are, how long a text can be, what is printed and document 01's own
-- run, stand in proofs/Theorems, with their arguments beside it: how the lines go on decides them.
use Rattle.std.specs.Prelude.{List, [], ◌∷◌, map, ◌≢◌, ◌↔◌, ◌≡◌, refl, ℕ, ◌^◌, ◌≤◌, ◌<◌, drop, get_or, length, take}
use Rattle.events.specs.FigureRun.{FigureRun}
use Rattle.events.specs.Row.{row_end}
use Rattle.events.specs.Theorems.{row_figure}
use Rattle.lock.specs.Fresh.{fresh_state}
use Rattle.number.specs.First.{First}
use Rattle.number.specs.OneResult.{only}
use Rattle.number.specs.Refused.{done}
use Rattle.run.specs.Run.{answers_of, ran_over, run}
use Rattle.schedule.specs.Schedule.{GoodSchedule, events_of, heading_of}
use Rattle.schedule.specs.Theorems.{good_schedule}
use Rattle.machine.specs.Step.{advance}
use Rattle.text.specs.Decimal.{EachDigit, decimal, decimal_to, digit, value_from}
use Rattle.text.specs.Proof.Begun
use Rattle.text.specs.Proof.Digits
use Rattle.text.specs.Proof.Given
use Rattle.text.specs.Proof.Shows
use Rattle.text.specs.Shown.{answer_in, fields_of}
use Rattle.text.specs.Text.{begin}
use Rattle.text.specs.Text.{text, text_bytes, text_conditions, text_of, written}
use Rattle.text.specs.Written.{Written}

-- ---- numbers
module _ (n : ℕ) where
  -- What is written for a number is digits and nothing else ..
  pub decimal_digits : EachDigit (decimal n)
  decimal_digits = Digits.decimal_digits n

  -- .. at least one of them ..
  pub decimal_some : 0 < length (decimal n)
  decimal_some = Digits.decimal_some n

  -- .. that say the number ..
  pub decimal_value : n < 2 ^ 32 → value_from 0 (decimal n) ≡ n
  decimal_value = Digits.decimal_value n

  -- .. and no zero stands in front, but for the number 0 ..
  pub decimal_first : n < 2 ^ 32 → get_or (decimal n) 0 0 ≡ digit 0 → n ≡ 0
  decimal_first = Digits.decimal_first n

-- .. which is one zero.
pub decimal_zero : decimal 0 ≡ digit 0 ∷ []
unfolding decimal decimal_to
decimal_zero = refl

-- ---- the call, for schedule b and a buffer
module _ (b out : List ℕ) where
  -- Its number is that of the first of its conditions that applies: 2, the schedule is bad; 4, the buffer is too short for the text ..
  pub text_exactly : (m : ℕ) → ((text b out).number ≡ m) ↔ First (text_conditions b (length out)) m
  unfolding text
  text_exactly = Given.exactly b (length out)

  -- .. and 0 exactly if the schedule is good and the text fits.
  pub text_done : ((text b out).number ≡ done) ↔ (GoodSchedule b × (length (text_of b) ≤ length out))
  unfolding text
  text_done = Given.done_exactly b (length out)

  -- Where it is 0, the length is the text's, the buffer begins with the text, and the bytes after it stay.
  pub text_accepted : (text b out).number ≡ done → let n = length (text_of b) in
      (text b out ≡ written done n) × (take n (text_bytes b out) ≡ text_of b) × (drop n (text_bytes b out) ≡ drop n out)
  unfolding text
  text_accepted = Given.accepted b out

  -- A refusal gives the length 0, and leaves every byte of the buffer unchanged.
  pub text_refused : (text b out).number ≢ done → ((text b out).size ≡ 0) × (text_bytes b out ≡ out)
  text_refused = Given.refused b out

  -- The length is never more than the buffer's.
  pub text_within : (text b out).size ≤ length out
  text_within = Given.within b out

  -- Two results and two buffers that both meet the call's promise are equal.
  pub text_one_result : (r r' : Written) (o o' : List ℕ) → r ≡ text b out → o ≡ text_bytes b out → r' ≡ text b out → o' ≡ text_bytes b out
      → (r ≡ r') × (o ≡ o')
  text_one_result r r' o o' p q p' q' = (only p p', only q q')

-- ---- the lines of the events of schedule b
module _ (b : List ℕ) where
  -- Their fields show the run's answers, one for each line: "the stopping event is the last shown".
  pub text_answers : map answer_in (fields_of b) ≡ answers_of (begin b) b
  text_answers = Shows.answers_shown 1 (begin b) (events_of b)

  -- ---- the run that the text tells of
  module _ (rule : GoodSchedule b) where
    -- The schedule is run "from fresh", the fresh state of its T and K; the last line is of that run, which nothing refuses ..
    pub text_run : (answers : List ℕ) → 16_383 ≤ length answers
        → (begin b ≡ fresh_state (heading_of b).threads (heading_of b).nodes) × (run (begin b) b answers ≡ ran_over (begin b) b)
    text_run answers room = (Begun.begin_fresh b ((good_schedule b).1 rule), Begun.begun_run b ((good_schedule b).1 rule) answers room)

    -- .. and the answers that the lines show are those of Figure 1 and the table of refusals.
    pub text_figure : FigureRun (begin b) (events_of b) (map answer_in (fields_of b)) (row_end advance (begin b) (events_of b))
    text_figure = rw text_answers (row_figure (begin b) (events_of b) (Begun.begin_valid b ((good_schedule b).1 rule)))
