-- The unread part: of any report, and of the run's own. A run that a number of 5 to 11 stopped has counted each event that it took, so what its report
-- leaves out is what follows the stopping event. Rests on Runs and on the theorems about schedules. Assumes nothing.
use Rattle.std.specs.Prelude.{Bool, cond, false, true, List, [], ◌∷◌, ◌++◌, ◌≢◌, ◌≡◌, refl, ℕ, ◌≤◌, ◌<◌, eqb, drop, length}
use Rattle.std.proofs.Common.{append_assoc, sym, ◌∙◌, arith, drop_of_length-le, length-append, drop_at}
use Rattle.std.proofs.Math.Logic.{by_cases}
use Rattle.std.proofs.Math.Path.{ap}
use Rattle.std.proofs.Math.Decide.{dec_le}
use Rattle.std.proofs.Math.Seq.{drop-length}
use borrow.Author.Tests.{eq-eqb, le-leb, lt-leb, ne_eqb}
use Rattle.events.specs.Row.{goes_on, row_answers, row_end, stopping}
use Rattle.events.specs.Theorems.{row_length_all, row_stop, stop_not_done, stopping_append}
use Rattle.events.specs.declared.Event.{Event}
use Rattle.lock.specs.Valid.{Between}
use Rattle.lock.specs.declared.State.{State}
use Rattle.number.specs.Refused.{bad_state, done, too_short}
use Rattle.rows.specs.Loops.{laid_append}
use Rattle.rows.specs.Rows.{Bytes, laid}
use Rattle.schedule.specs.Schedule.{event_record, events_of, schedule_of, start_of}
use Rattle.schedule.specs.Theorems.{events_written, good_schedule, length_written, rest_of_events}
use Rattle.machine.specs.Step.{step}
use Rattle.run.specs.Conditions.{Accepted}
use Rattle.run.specs.Proof.Refused.{refusal_at_most}
use Rattle.run.specs.Proof.Runs.{answered, answers_by_step, refused, run_stops, stop_of, taken_all}
use Rattle.run.specs.Run.{answers_of, before_events, refusal, reported, run, taken, unread, unread_from, up_to_end}
use Rattle.run.specs.declared.Ran.{Ran}
use Rattle.run.specs.declared.Report.{Report}

-- ---- a place, or the end

-- Past a place that lies past the end there is what is past the end: nothing.
to_end : (place : ℕ) (b : List ℕ) → drop (up_to_end place b) b ≡ drop place b
to_end place b = by_cases (dec_le place (length b)) inside outside
  where
    inside : place ≤ length b → drop (up_to_end place b) b ≡ drop place b
    inside h = let e : up_to_end place b ≡ place = omega arith in rw e

    outside : ¬ (place ≤ length b) → drop (up_to_end place b) b ≡ drop place b
    outside h =
        let e : up_to_end place b ≡ length b = omega arith in
        rw (e, drop-length b) (sym (drop_of_length-le b {i = place} (omega arith)))

-- ---- of any report
module _ (b : List ℕ) (r : Report) where
  pub nothing : r.stop ≡ done → unread b r ≡ []
  unfolding unread_from
  nothing e = rw (eq-eqb _ _ e) (drop-length b)

  pub whole : Between bad_state r.stop too_short → unread b r ≡ b
  unfolding unread_from
  whole low = rw (ne_eqb r.stop done (λ z. omega (arith, low.from)), le-leb _ _ low.to)

  pub behind : too_short < r.stop → unread b r ≡ drop (start_of (taken r)) b
  unfolding unread_from
  behind high = rw (ne_eqb r.stop done (λ z. omega arith), lt-leb _ _ high) (to_end (start_of (taken r)) b)

  pub past_the_end : too_short < r.stop → length b ≤ start_of (taken r) → unread b r ≡ []
  past_the_end high h = behind high ∙ drop_of_length-le b h

  -- whichever of its two tests holds, it begins in the schedule or at its end
  part_by : (t t' : Bool) → cond t (length b) (cond t' 0 (up_to_end (start_of (taken r)) b)) ≤ length b
  part_by true t' = omega arith
  part_by false true = omega arith
  part_by false false = omega arith

  pub part : unread_from b r ≤ length b
  unfolding unread_from
  part = part_by (eqb r.stop done) (before_events r.stop)

-- ---- of the run's own
module _ (s : State) (b out : List ℕ) where
  pub of_refused : refusal s b (length out) ≢ done → unread b (run s b out).report ≡ b
  of_refused off =
      let low : Between bad_state (refusal s b (length out)) too_short = record { from = omega arith; to = refusal_at_most s b (length out) } in
      ap (λ (x : Ran). unread b x.report) (refused s b out _ refl off).0 ∙ whole b (reported 0 0 (refusal s b (length out))) low

  module _ (a : Accepted s b (length out)) (off : (run s b out).report.stop ≢ done) where
    -- what follows the events that were answered
    of_stopped : unread b (run s b out).report ≡ drop (start_of (length (answers_of s b))) b
    of_stopped =
        behind b (run s b out).report (omega (arith, (run_stops s b out a off).from))
        ∙ ap (λ (n : ℕ). drop (start_of n) b) (taken_all s b out a off)

    pub of_events : Bytes b → unread b (run s b out).report ≡ laid event_record (drop (length (answers_of s b)) (events_of b))
    of_events bytes = of_stopped ∙ rest_of_events b bytes ((good_schedule b).1 a.schedule) (length (answers_of s b)) (answered s b out a)

-- ---- of a schedule that was written

-- It is that of its first events, and then the bytes of the later ones.
in_parts : (T K : ℕ) (front later : List Event) → schedule_of T K (front ++ later) ≡ schedule_of T K front ++ laid event_record later
unfolding schedule_of
in_parts T K front later = rw (laid_append event_record front later)

behind_events : (T K : ℕ) (front later : List Event) → drop (start_of (length front)) (schedule_of T K (front ++ later)) ≡ laid event_record later
behind_events T K front later =
    rw (in_parts T K front later) (drop_at (schedule_of T K front) (laid event_record later) (start_of (length front)) (length_written T K front))

module _ (T K : ℕ) (es : List Event) (e : Event) (later : List Event) (s : State) (out : List ℕ)
    (a : Accepted s (schedule_of T K (es ++ e ∷ later)) (length out))
    (on : stopping (row_answers step s es) ≡ done)
    (h : goes_on (step (row_end step s es) e.thread e.node).answer ≡ false) where
  abbrev b : List ℕ
  b = schedule_of T K (es ++ e ∷ later)

  abbrev last : ℕ
  last = (step (row_end step s es) e.thread e.node).answer

  -- the answers are those to es, and then the one that stops
  answers_are : answers_of s b ≡ row_answers step s es ++ last ∷ []
  answers_are =
      answers_by_step s b out a ∙ ap (row_answers step s) (events_written T K (es ++ e ∷ later)) ∙ (row_stop step s es e later on h).0

  many : length (answers_of s b) ≡ length (es ++ e ∷ [])
  many = rw (answers_are, length-append (row_answers step s es) (last ∷ []), row_length_all step s es on, length-append es (e ∷ []))

  stop_is : (run s b out).report.stop ≡ last
  unfolding stopping
  stop_is = stop_of s b out a ∙ ap stopping answers_are ∙ stopping_append (row_answers step s es) (last ∷ []) on ∙ rw h

  pub of_written : unread b (run s b out).report ≡ laid event_record later
  of_written =
      of_stopped s b out a (λ z. stop_not_done last h (sym stop_is ∙ z))
      ∙ rw many (rw append_assoc at (behind_events T K (es ++ e ∷ []) later))
