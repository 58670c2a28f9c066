-- What a run promises: each theorem under a plain sentence. First what refuses a run; then the run as the row of the steps' answers, and against Figure 1;
-- then the unread part, a run in two parts, and demand 2. The arguments are in Proof. Assumes nothing.
use Rattle.std.specs.Prelude.{false, List, [], ◌∷◌, ◌++◌, ◌≢◌, ◌⊎◌, ◌↔◌, ◌≡◌, ℕ, ◌+◌, ◌*◌, ◌≤◌, ◌<◌, drop, get_or, length, take}
use Rattle.events.specs.Events.{after}
use Rattle.events.specs.FigureRun.{FigureRun}
use Rattle.events.specs.Row.{goes_on, row_answers, row_end, stopping}
use Rattle.events.specs.declared.Event.{Event}
use Rattle.lock.specs.Valid.{Between, SameSize, Sized, Valid}
use Rattle.lock.specs.declared.State.{State}
use Rattle.number.specs.OneResult.{only}
use Rattle.number.specs.Refused.{bad_state, done, no_place_left, no_such_thread, too_short}
use Rattle.rows.specs.Rows.{Bytes, laid, over}
use Rattle.schedule.specs.Schedule.{event_record, events_of, most_bytes, schedule_of, start_of, width}
use Rattle.machine.specs.Step.{step}
use Rattle.run.specs.Conditions.{Accepted, Condition, First, NoneApply, conditions}
use Rattle.run.specs.Proof.Counts
use Rattle.run.specs.Proof.Refused
use Rattle.run.specs.Proof.Runs
use Rattle.run.specs.Proof.Split
use Rattle.run.specs.Proof.Unread
use Rattle.run.specs.Run.{answers_of, onward, ran, refusal, report_of, reported, run, run_bytes, step_answers, taken, unread, unread_from}
use Rattle.run.specs.declared.Ran.{Ran}
use Rattle.run.specs.declared.Report.{Report}
pub use Rattle.run.specs.Demands.{Counted, Invented, RunTool, executed_by, invents_executed, invents_waited, waited_by}

-- ---- what refuses a run: the number that comes "before the first event"
module _ (s : State) (b : List ℕ) (room : ℕ) (sized : Sized s) where
  -- It is that of the first condition of document 01 that applies, and 0 if none does.
  pub refused_exactly : (m : ℕ) → (refusal s b room ≡ m) ↔ First (conditions s b room) m
  refused_exactly = Refused.refused_exactly s b room sized

  -- So it is 0 exactly when no condition applies ..
  pub none_exactly : (refusal s b room ≡ done) ↔ NoneApply (conditions s b room)
  none_exactly = Refused.none_exactly s b room sized

  -- .. each number exactly when its condition applies and none before it does ..
  pub given_exactly : (before : List Condition) (c : Condition) (later : List Condition) → conditions s b room ≡ before ++ c ∷ later
      → (refusal s b room ≡ c.number) ↔ (NoneApply before × c.applies)
  given_exactly = Refused.given_exactly s b room sized

  -- .. and 0 exactly when the state and the schedule obey their rules, have the same T and K, and there is a byte for each event.
  pub accepted_exactly : (refusal s b room ≡ done) ↔ Accepted s b room
  accepted_exactly = (Refused.accepted s b room sized, Refused.not_refused s b room)

-- A schedule that was written with the T and K of a valid state is accepted, if it is not too long and there is a byte for each of its events.
pub written_accepted : (T K : ℕ) (es : List Event) (s : State) (room : ℕ) → Valid s → s.shared.threads ≡ T → s.shared.nodes ≡ K
    → width + width * length es ≤ most_bytes → length es ≤ room → Accepted s (schedule_of T K es) room
written_accepted = Refused.accepted_written

module _ (s : State) (b out : List ℕ) where
  -- "Refusals 1 to 4 .. change nothing": not the state, not a byte. "after refusals 1 to 4 the counts are 0 and that number stands as the stopping one"
  pub run_refused : (m : ℕ) → refusal s b (length out) ≡ m → m ≢ done → (run s b out ≡ ran (reported 0 0 m) s) × (run_bytes s b out ≡ out)
  run_refused = Runs.refused s b out

  -- A stopping number of 1 to 4 is given exactly when its condition is the first that applies: it always means a refusal.
  pub stop_exactly : Sized s → (m : ℕ) → Between bad_state m too_short → ((run s b out).report.stop ≡ m) ↔ First (conditions s b (length out)) m
  stop_exactly = Runs.stop_exactly s b out

  -- ---- a run that nothing refuses
  module _ (a : Accepted s b (length out)) where
    -- the answers of the steps one after the other, up to and including the stop
    abbrev given : List ℕ
    given = step_answers s b

    -- The answers of the run's own definition are these: to judge each state again would change nothing.
    pub answers_of_steps : answers_of s b ≡ given
    answers_of_steps = Runs.answers_given s b out a

    -- It is the row of these answers: they are stored at their places, the report has their executed, their waited and their stopping number, and the
    -- state is that after the events that were answered.
    pub run_row : (run s b out ≡ ran (report_of given) (after step s (take (length given) (events_of b)))) × (run_bytes s b out ≡ over given out)
    run_row = Runs.run_row s b out a

    -- "each event's answer is stored at its place": byte i is the answer to event i, for each event that was answered ..
    pub answer_at_place : (i : ℕ) → i < length given → get_or (run_bytes s b out) i 0 ≡ get_or given i 0
    answer_at_place = Runs.at_place s b out a

    -- .. "Later answer bytes, and bytes past the last event, stay."
    pub later_bytes_stay : (i : ℕ) → length given ≤ i → get_or (run_bytes s b out) i 0 ≡ get_or out i 0
    later_bytes_stay = Runs.later_stay s b out a

    -- It is what Figure 1 and the table of refusals say: however the figure answers the events, these are the run's answers, its counts, its stopping
    -- number and its end ..
    pub run_figure : (told : List ℕ) (s' : State) → FigureRun s (events_of b) told s'
        → (run s b out ≡ ran (report_of told) s') × (run_bytes s b out ≡ over told out)
    run_figure = Runs.run_figure s b out a

    -- .. and the figure does answer them.
    pub run_is_figure : FigureRun s (events_of b) given (run s b out).state
    run_is_figure = Runs.is_figure s b out a

    -- Its stopping number is 0 or 5 to 11.
    pub run_stops : ((run s b out).report.stop ≡ done) ⊎ Between no_such_thread (run s b out).report.stop no_place_left
    run_stops = Runs.stops_or_not s b out a

    -- It ends in a valid state ..
    pub run_valid : Valid (run s b out).state
    run_valid = Runs.run_valid s b out a

    -- .. with the same T and K.
    pub run_size : SameSize s (run s b out).state
    run_size = Runs.run_size s b out a

-- ---- the unread part, whatever the report says
module _ (b : List ℕ) (r : Report) where
  -- It is nothing where the stopping number is 0 ..
  pub unread_none : r.stop ≡ done → unread b r ≡ []
  unread_none = Unread.nothing b r

  -- .. the whole where it is 1 to 4 ..
  pub unread_whole : Between bad_state r.stop too_short → unread b r ≡ b
  unread_whole = Unread.whole b r

  -- .. and else what follows as many events as were executed, waited and stopped: nothing where there are not so many.
  pub unread_behind : too_short < r.stop → unread b r ≡ drop (start_of (taken r)) b
  unread_behind = Unread.behind b r

  pub unread_past : too_short < r.stop → length b ≤ start_of (taken r) → unread b r ≡ []
  unread_past = Unread.past_the_end b r

  -- So it always begins in the schedule or at its end: it is a part of it.
  pub unread_part : unread_from b r ≤ length b
  unread_part = Unread.part b r

-- ---- the unread part of the run's own schedule
module _ (s : State) (b out : List ℕ) where
  -- "the whole of it after refusals 1 to 4"
  pub unread_refused : refusal s b (length out) ≢ done → unread b (run s b out).report ≡ b
  unread_refused = Unread.of_refused s b out

  -- "nothing if none stopped it"
  pub unread_ended : (run s b out).report.stop ≡ done → unread b (run s b out).report ≡ []
  unread_ended = Unread.nothing b (run s b out).report

  -- "what follows the stopping event": the bytes of the events that were not answered
  pub unread_rest : Accepted s b (length out) → Bytes b → (run s b out).report.stop ≢ done
      → unread b (run s b out).report ≡ laid event_record (drop (length (answers_of s b)) (events_of b))
  unread_rest a bytes off = Unread.of_events s b out a off bytes

-- If the events es do not stop the run and e does, the bytes of the later events are handed back, and no other.
pub unread_stopped : (T K : ℕ) (es : List Event) (e : Event) (later : List Event) (s : State) (out : List ℕ)
    → let b = schedule_of T K (es ++ e ∷ later) in Accepted s b (length out)
    → stopping (row_answers step s es) ≡ done → goes_on (step (row_end step s es) e.thread e.node).answer ≡ false
    → unread b (run s b out).report ≡ laid event_record later
unread_stopped = Unread.of_written

-- ---- a run in two parts: the events es, and then the later ones from the state in which the first part ends
module _ (T K : ℕ) (es later : List Event) (s : State) (out : List ℕ) (whole : Accepted s (schedule_of T K (es ++ later)) (length out)) where
  abbrev b : List ℕ
  b = schedule_of T K (es ++ later)

  abbrev b₁ : List ℕ
  b₁ = schedule_of T K es

  abbrev b₂ : List ℕ
  b₂ = schedule_of T K later

  -- If the first part stops, the run is the first part: no later event is taken.
  pub run_cut : (run s b₁ out).report.stop ≢ done → (run s b out ≡ run s b₁ out) × (run_bytes s b out ≡ run_bytes s b₁ out)
  run_cut = Split.cut T K es later s out whole

  module _ (out₁ : List ℕ) (room₁ : length es ≤ length out₁) where
    abbrev s₁ : State
    s₁ = (run s b₁ out₁).state

    -- Nothing refuses the first part, nor the second.
    pub split_accepted : Accepted s b₁ (length out₁) × ((out₂ : List ℕ) → length later ≤ length out₂ → Accepted s₁ b₂ (length out₂))
    split_accepted = (Split.first_accepted T K es later s out whole out₁ room₁, Split.second_accepted T K es later s out whole out₁ room₁)

    module _ (on : (run s b₁ out₁).report.stop ≡ done) where
      -- If the first part does not stop, the run ends where the second does, its counts are the sums, and its stopping number is the second's.
      pub run_split : (out₂ : List ℕ) → length later ≤ length out₂
          → let r₁ = (run s b₁ out₁).report in let r₂ = (run s₁ b₂ out₂).report in
          run s b out ≡ ran (reported (r₁.executed + r₂.executed) (r₁.waited + r₂.waited) r₂.stop) (run s₁ b₂ out₂).state
      run_split = Split.split T K es later s out whole out₁ room₁ on

      -- In the buffer stand the first part's answers, as the first run stores them ..
      pub split_first : take (length es) (run_bytes s b out) ≡ take (length es) (run_bytes s b₁ out₁)
      split_first = Split.split_front T K es later s out whole out₁ room₁ on

      -- .. behind them the second's, as the second run stores them ..
      pub split_second : (out₂ : List ℕ) → length later ≤ length out₂
          → let m = length (answers_of s₁ b₂) in take m (drop (length es) (run_bytes s b out)) ≡ take m (run_bytes s₁ b₂ out₂)
      split_second = Split.split_behind T K es later s out whole out₁ room₁ on

      -- .. and lent the rest of the buffer, the second run leaves it just so.
      pub split_rest : drop (length es) (run_bytes s b out) ≡ run_bytes s₁ b₂ (drop (length es) out)
      split_rest = Split.split_rest T K es later s out whole out₁ room₁ on

-- ---- no second result

-- Two results and two buffers that both meet the run's promise are equal.
pub run_one_result : (s : State) (b out : List ℕ) (r r' : Ran) (o o' : List ℕ) → r ≡ run s b out → o ≡ run_bytes s b out
    → r' ≡ run s b out → o' ≡ run_bytes s b out → (r ≡ r') × (o ≡ o')
run_one_result s b out r r' o o' p q p' q' = (only p p', only q q')

-- Two parts that both meet the promise of `unread` are equal: they lie at the same place, and have the same bytes.
pub unread_one_result : (place : ℕ × ℕ) (b : List ℕ) (report : Report) (at at' : ℕ × ℕ) (r r' : List ℕ)
    → at ≡ onward place (unread_from b report) → r ≡ unread b report → at' ≡ onward place (unread_from b report) → r' ≡ unread b report
    → (at ≡ at') × (r ≡ r')
unread_one_result place b report at at' r r' p q p' q' = (only p p', only q q')

-- ---- demand 2

-- Our run's counts are the zeros and the waits of the figure's answers ..
pub run_counted : Counted run
run_counted = Counts.run_counted

-- .. and each run of which that is so has the counts of ours, wherever nothing refuses it.
pub counted_same : (tool : RunTool) → Counted tool → (s : State) (b out : List ℕ) → Accepted s b (length out)
    → ((tool s b out).report.executed ≡ (run s b out).report.executed) × ((tool s b out).report.waited ≡ (run s b out).report.waited)
counted_same = Counts.counted_same

-- So a made up number of events executed, or of events waited, is the real one ..
pub executed_not_invented : (count : Invented) → Counted (executed_by count) → (s : State) (b out : List ℕ) → Accepted s b (length out)
    → count s b out ≡ (run s b out).report.executed
executed_not_invented count counted s b out a = (Counts.counted_same (executed_by count) counted s b out a).0

pub waited_not_invented : (count : Invented) → Counted (waited_by count) → (s : State) (b out : List ℕ) → Accepted s b (length out)
    → count s b out ≡ (run s b out).report.waited
waited_not_invented count counted s b out a = (Counts.counted_same (waited_by count) counted s b out a).1

-- .. and a run that reports one too many is shut out.
pub invents_executed_useless : Counted invents_executed → ⊥
invents_executed_useless = Counts.invents_executed_lem

pub invents_waited_useless : Counted invents_waited → ⊥
invents_waited_useless = Counts.invents_waited_lem
