-- How long the text of a good schedule can be. From a valid state every field of a line has few digits, and a row from a valid state stays valid (crate
-- `events`); a schedule has at most 16,383 events. Rests on EventLines, and on Digits and Lines (specs/). Assumes nothing.
use Rattle.std.specs.Prelude.{Bool, List, [], ◌∷◌, ◌≡◌, ℕ, suc, ◌+◌, ◌*◌, ◌≤◌, ◌<◌, eqb, ltb, get_or}
use Rattle.std.proofs.Math.Bool.{cond, false, true}
use Rattle.std.proofs.Math.Path.{refl}
use Rattle.std.proofs.Math.Decide.{ℕ_discrete}
use native.Mathlib.Omega.{arith}
use Rattle.std.proofs.Math.ListN.{length}
use Rattle.std.proofs.Common.{length-append}
use borrow.Author.Tests.{eqb-false, eqb-true, ltb-false, ltb-true}
use Rattle.ask.specs.Ask.{answered, free, held, is_free, is_held, is_waiting, passing, refused, status, status_of, waiting}
use Rattle.ask.specs.Proof.Count.{threads_at_most}
use Rattle.events.specs.Proof.Judged.{state_valid}
use Rattle.events.specs.Row.{executed, goes_on, row_answers, row_end, stopping, waited}
use Rattle.events.specs.Theorems.{row_counts, row_length, row_valid, stopping_5_to_11, stops_5_to_11}
use Rattle.events.specs.declared.Event.{Event}
use Rattle.lock.specs.State.{thread_at}
use Rattle.lock.specs.Valid.{Valid, valid}
use Rattle.lock.specs.declared.State.{State}
use Rattle.number.specs.Refused.{bad_state, done, must_wait, no_place_left}
use Rattle.number.specs.Sizes.{last_line}
use Rattle.number.specs.Tests.{neither_holds}
use Rattle.rows.specs.Rows.{Bytes}
use Rattle.run.specs.Run.{ran, ran_over, report_of}
use Rattle.run.specs.declared.Ran.{Ran}
use Rattle.schedule.specs.Schedule.{events_in, events_of, good, no_event, start_of}
use Rattle.schedule.specs.Theorems.{event_none, event_there, few_events, length_events}
use Rattle.machine.specs.Step.{advance, no_thread}
use Rattle.machine.specs.Stepped.{Stepped}
use Rattle.text.specs.Decimal.{decimal, letters_from}
use Rattle.text.specs.Proof.Begun.{begin_valid}
use Rattle.text.specs.Proof.Digits.{decimal_short}
use Rattle.text.specs.Proof.Given.{text_length}
use Rattle.text.specs.Proof.Lines.{numbers_cons, numbers_none}
use Rattle.text.proofs.EventLines.{lines_at_most}
use Rattle.text.proofs.Passes.{heading_length}
use Rattle.text.specs.Text.{begin, end_fields, end_line, event_line, event_lines, line_before, most_text, numbers, text_of}

-- ---- a field of at most k digits, before fields of at most m bytes
at_most : (n k m : ℕ) (ns : List ℕ) → length (decimal n) ≤ k → length (numbers ns) ≤ m → length (numbers (n ∷ ns)) ≤ k + 1 + m
at_most n k m ns h l = rw (numbers_cons n ns) (simp length-append (omega arith))

no_more : length (numbers []) ≤ 0
no_more = rw numbers_none (omega arith)

-- the answers after which a run goes on
going : (a : ℕ) → goes_on a ≡ true → a ≤ must_wait
going a h = go (eqb a done) refl
  where
    go : (t : Bool) → eqb a done ≡ t → a ≤ must_wait
    go true e = omega (arith, eqb-true a done e)
    go false e = omega (arith, eqb-true a must_wait (rw e at h))

-- ---- what the fields of an event's line can be, from a valid state
module _ (s : State) (e : Event) (rule : Valid s) where
  abbrev r : Stepped
  r = advance s e.thread e.node

  -- "0 if no such thread", and else a line
  line_small : line_before s e ≤ last_line
  unfolding line_before
  line_small = go (no_thread s.shared.threads e.thread) refl
    where
      go : (t : Bool) → no_thread s.shared.threads e.thread ≡ t → cond t 0 (thread_at s e.thread).line ≤ last_line
      go true h = omega arith
      go false h =
          let neither = neither_holds (eqb e.thread.0 0) (ltb s.shared.threads e.thread.0) h in
          let some : 1 ≤ e.thread.0 = omega (arith, eqb-false e.thread.0 0 neither.0) in
          (rule.thread e.thread some (ltb-false _ _ neither.1)).line.to

  -- 0 or a number of the table
  answer_small : r.answer ≤ must_wait
  answer_small = go (goes_on r.answer) refl
    where
      go : (t : Bool) → goes_on r.answer ≡ t → r.answer ≤ must_wait
      go true h = going r.answer h
      go false h = omega (arith, stops_5_to_11 s e.thread e.node rule h)

  pub event_line_short : (n : ℕ) → n ≤ 16_383 → e.thread.0 < 256 → length (event_line n s e r) ≤ 37
  unfolding event_line
  event_line_short n h byte =
      let range = (state_valid s e.thread e.node rule).shared in
      at_most _ 5 _ _ (decimal_short 4 _ (omega arith))
      (at_most _ 3 _ _ (decimal_short 2 _ (omega arith))
      (at_most _ 2 _ _ (decimal_short 1 _ (omega (arith, line_small)))
      (at_most _ 2 _ _ (decimal_short 1 _ (omega (arith, answer_small)))
      (at_most _ 2 _ _ (decimal_short 1 _ (omega (arith, range.tail, range.nodes.to)))
      (at_most _ 1 _ _ (decimal_short 0 _ (omega (arith, range.flag)))
      (at_most _ 7 _ _ (decimal_short 6 _ (omega (arith, range.low.to)))
      (at_most _ 7 _ _ (decimal_short 6 _ (omega (arith, range.high.to))) no_more)))))))

-- ---- the lines of events whose threads are bytes, of which the first is the n-th

-- what is known from one event to the next
record Known (n : ℕ) (s : State) (es : List Event) : Type 0 where
  rule : Valid s
  few : n + length es ≤ 16_384
  bytes : (i : ℕ) → (get_or es i no_event).thread.0 < 256

lines_short : (n : ℕ) (s : State) (es : List Event) → Known n s es → length (event_lines n s es) ≤ 37 * length es
lines_short =
    lines_at_most 37 Known
    (λ n s e es known. (
      event_line_short s e known.rule n (omega (arith, known.few)) (known.bytes 0),
      record {
        rule = state_valid s e.thread e.node known.rule;
        few = omega (arith, known.few);
        bytes = λ i. known.bytes (suc i);
      },
    ))

-- ---- the last line

-- what a question gives, of which each answer is small
small_value : (t : Bool) (v m : ℕ) → v ≤ m → (cond t (answered v) (refused bad_state)).value ≤ m
small_value true v m h = h
small_value false v m h = omega arith

status_small : (s : State) → (status s).value ≤ 3
unfolding status status_of
status_small s = small_value (valid s) _ 3 (go (is_free s) (is_held s))
  where
    go : (f h : Bool) → cond f free (cond h held passing) ≤ 3
    go true h = omega arith
    go false true = omega arith
    go false false = omega arith

waiting_small : (s : State) → Valid s → (waiting s).value ≤ 32
unfolding waiting
waiting_small s rule = small_value (valid s) _ 32 (omega (arith, threads_at_most s.shared.threads is_waiting s, rule.shared.threads.to))

module _ (s : State) (es : List Event) (rule : Valid s) (few : length es ≤ 16_383) where
  abbrev given : List ℕ
  given = row_answers advance s es

  counts_small : executed given + waited given ≤ 16_383
  counts_small = omega (arith, row_counts advance s es, row_length advance s es)

  stop_small : stopping given ≤ no_place_left
  stop_small = go (ℕ_discrete (stopping given) done)
    where
      go : Dec (stopping given ≡ done) → stopping given ≤ no_place_left
      go (yes h) = omega (arith, h)
      go (no h) = (stopping_5_to_11 s es rule h).to

  -- the run's report and the state that it ends in
  abbrev ended : Ran
  ended = ran (report_of given) (row_end advance s es)

  end_fields_short : length (numbers (end_fields ended)) ≤ 20
  unfolding report_of
  end_fields_short =
      at_most _ 5 _ _ (decimal_short 4 _ (omega (arith, counts_small)))
      (at_most _ 5 _ _ (decimal_short 4 _ (omega (arith, counts_small)))
      (at_most _ 2 _ _ (decimal_short 1 _ (omega (arith, stop_small)))
      (at_most _ 1 _ _ (decimal_short 0 _ (omega (arith, status_small ended.state)))
      (at_most _ 2 _ _ (decimal_short 1 _ (omega (arith, waiting_small ended.state (row_valid s es rule)))) no_more))))

  pub end_short : length (end_line ended) ≤ 24
  unfolding end_line letters_from
  end_short = omega (arith, end_fields_short)

-- ---- the text
module _ (b : List ℕ) (bytes : Bytes b) (h : good b ≡ true) where
  thread_byte : (i : ℕ) → (get_or (events_of b) i no_event).thread.0 < 256
  thread_byte i = go (ltb i (events_in b)) refl
    where
      go : (t : Bool) → ltb i (events_in b) ≡ t → (get_or (events_of b) i no_event).thread.0 < 256
      go true e = rw (event_there b i (ltb-true i (events_in b) e)) (bytes (start_of i + 2))
      go false e = rw (event_none b i (ltb-false i (events_in b) e)) (omega arith)

  pub text_short : length (text_of b) ≤ most_text
  unfolding ran_over
  text_short =
      let few : length (events_of b) ≤ 16_383 = omega (arith, length_events b, few_events b h) in
      let rule = begin_valid b h in
      let lines = lines_short 1 (begin b) (events_of b) record { rule = rule; few = omega arith; bytes = thread_byte } in
      let last = end_short (begin b) (events_of b) rule few in
      omega (arith, text_length b, heading_length, lines, last)
