-- `run::run_events` meets its contract. Where event i is answered, it is the next of the row, and the bytes are a saved state again (`told`); its answer is
-- stored at its place (`kept`). Rests on the laws of a row of events (crate `events`) and on Laws. Assumes nothing.
use Rattle.std.proofs.Common.{List, ap, arith, drop, Err, length, refl, rules, set, take, true, ℕ, ◌++◌, ◌+◌, ◌<◌, ◌≡◌, ◌≢◌, ◌≤◌, ◌∙◌}
use Rattle.event.specs.Event.{Advanced}
use Rattle.event.specs.Proof.Good.{again_good}
use Rattle.events.specs.Laws.{Next, SoFar, at_the_end, next_at, row, start, stops_here, stored, stored_all}
use Rattle.events.specs.declared.Event.{Event}
use Rattle.lock.specs.declared.State.{State}
use Rattle.machine.specs.Step.{advance, stepped}
use Rattle.number.specs.Answer.{answer_of}
use Rattle.number.specs.Refused.{done}
use Rattle.number.specs.declared.Refusal.TheVariants.{MustWait}
use Rattle.rows.specs.Rows.{Bytes}
use Rattle.saved.specs.Saved.{saved_good, state_in}
use Rattle.schedule.specs.Schedule.{event_at, events_in, events_of, good, no_event}
use Rattle.schedule.specs.Theorems.{few_events, length_events}
use Rattle.run.proofs.Laws.{executed_more, over_gives, stops_lem, waited_more}
use Rattle.run.proofs.run_events.Goals as goal
use Rattle.run.proofs.run_events.Goals.{After-answer_number, in-Ok, in-Err-MustWait}
use Rattle.run.specs.Run.{reported}

-- ---- a row of a schedule's events, of which i are taken, x of them executed
module _ (s₀ : State) (schedule : List ℕ) {i x w : ℕ} {s : State} (f : SoFar advance s₀ (events_of schedule) i s x w) where
  counts : good schedule ≡ true → x + w ≤ 16_383
  counts rule = omega (arith, f.counted, f.within, few_events schedule rule, length_events schedule)

  -- the answer to the next is stored at its place in the buffer
  kept : {a : ℕ} {s' : State} → Next advance s₀ (events_of schedule) i s (stepped a s') → (buffer : List ℕ) {out : List ℕ}
      → i < length buffer → out ≡ take i (row advance s₀ (events_of schedule)) ++ drop i buffer
      → set out i a ≡ take (i + 1) (row advance s₀ (events_of schedule)) ++ drop (i + 1) buffer
  kept {a} next buffer h so_far = ap (λ (o : List ℕ). set o i a) so_far ∙ stored advance s₀ (events_of schedule) f next buffer h

-- event i of the schedule is the next, and the bytes are a saved state again, that after the event
told : (s₀ : State) (schedule b : List ℕ) {b' : List ℕ} {i a : ℕ} → saved_good b ≡ true → i < events_in schedule → (e : Event) → e ≡ event_at schedule i
    → Advanced b b' e.thread e.node a
    → Next advance s₀ (events_of schedule) i (state_in b) (stepped a (state_in b')) × (saved_good b' ≡ true)
told s₀ schedule b {b'} {i} {a} good inside e is done =
    let s = state_in b in
    let again = again_good b good e.thread e.node done in
    let gives : stepped a (state_in b') ≡ advance s e.thread e.node = λ j. stepped (done.answer j) (again.1 j) in
    let next =
    next_at advance s₀ (events_of schedule) i s (stepped a (state_in b')) no_event (omega (arith, inside, length_events schedule))
    (gives ∙ ap (λ (x : Event). advance s x.thread x.node) is) in
    (next, again.0)

-- ---- the goals
pub loop-i-init : goal.loop-i-init
loop-i-init c = record { so_far = start advance _ _; no_stop = refl; stored = search rules; good = c.requires.0; bytes = search rules }

-- the event that was answered is the next
next_of : (c : After-answer_number) → let s₀ = state_in c.args.b.now in let es = events_of c.args.schedule.now in
    Next advance s₀ es c.loop-i.i (state_in c.loop-i.b) (stepped (answer_of c.event-answer.result) (state_in c.event-answer.new.b))
    × (saved_good c.event-answer.new.b ≡ true)
next_of c =
    let inside : c.loop-i.i < events_in c.args.schedule.now = omega arith in
    let kept_good = c.loop-i.invariant.good in
    let given = c.event-e.ensures in
    told (state_in c.args.b.now) c.args.schedule.now c.loop-i.b kept_good inside c.event-e.result given c.event-answer.ensures

pub overflow_add-report : goal.overflow_add-report
overflow_add-report c = omega (arith, counts _ c.args.schedule.now c.loop-i.invariant.so_far c.requires.1)

pub overflow_add-report-in-Err-MustWait : goal.overflow_add-report-in-Err-MustWait
overflow_add-report-in-Err-MustWait c = omega (arith, counts _ c.args.schedule.now c.loop-i.invariant.so_far c.requires.1)

pub returns-in-Err : goal.returns-in-Err
returns-in-Err c =
    let schedule = c.args.schedule.now in
    let s₀ = state_in c.args.b.now in
    let f = c.loop-i.invariant.so_far in
    let t = next_of (goal.at.returns-in-Err c).After-answer_number in
    let bytes : Bytes c.event-answer.new.b = search rules in
    let no_wait : c.in-Err.refusal ≢ MustWait = search rules in
    let o = stops_here advance s₀ (events_of schedule) f t.0 (rw c.in-Err.is (stops_lem c.in-Err.refusal no_wait)) in
    let e = over_gives c.args.b.now c.event-answer.new.b schedule bytes t.1 o in
    record {
      gives = rw (c.from.ensures, ← ap answer_of c.in-Err.is) e.0;
      leaves = e.1;
      stores =
          rw c.answer_number.ensures
          (kept s₀ schedule f t.0 c.args.answers.now (omega arith) c.loop-i.invariant.stored ∙ stored_all advance s₀ (events_of schedule) o c.args.answers.now);
    }

pub loop-i-preserved : goal.loop-i-preserved
loop-i-preserved c =
    let schedule = c.args.schedule.now in
    let s₀ = state_in c.args.b.now in
    let f = c.loop-i.invariant.so_far in
    let none = c.loop-i.invariant.no_stop in
    let t = next_of (goal.at.loop-i-preserved c).After-answer_number in
    let counted : SoFar advance s₀ (events_of schedule) (c.loop-i.i + 1) (state_in c.event-answer.new.b) c.match-answer.report.executed c.match-answer.report.waited
    × (c.match-answer.report.stop ≡ done) =
    elim c.match-answer.branch [
      | in-Ok w ↦ rw w.report-is (executed_more advance s₀ (events_of schedule) f t.0 (ap answer_of w.in-Ok.is), none)
      | in-Err-MustWait w ↦
          let waits : c.event-answer.result ≡ Err MustWait = rw w.in-Err-MustWait.is (ap Err (rw w.in-Err-MustWait.is at w.in-Err-MustWait.field-0-is)) in
          rw w.report-is (waited_more advance s₀ (events_of schedule) f t.0 (ap answer_of waits), none)
    ] in
    record {
      so_far = counted.0;
      no_stop = counted.1;
      stored = rw c.answer_number.ensures (kept s₀ schedule f t.0 c.args.answers.now (omega arith) c.loop-i.invariant.stored);
      good = t.1;
      bytes = search rules;
    }

-- behind the last event
pub returns : goal.returns
returns c =
    let schedule = c.args.schedule.now in
    let f = c.loop-i.invariant.so_far in
    let taken : c.loop-i.i ≡ length (events_of schedule) = omega (arith, f.within, length_events schedule) in
    let o = at_the_end advance (state_in c.args.b.now) (events_of schedule) f taken in
    let e = over_gives c.args.b.now c.loop-i.b schedule c.loop-i.invariant.bytes c.loop-i.invariant.good o in
    record {
      gives = ap (λ (m : ℕ). reported c.loop-i.report.executed c.loop-i.report.waited m) c.loop-i.invariant.no_stop ∙ e.0;
      leaves = e.1;
      stores = c.loop-i.invariant.stored ∙ stored_all advance (state_in c.args.b.now) (events_of schedule) o c.args.answers.now;
    }
