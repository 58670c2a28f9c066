-- The loop's invariant: the first i events are taken and none of them stopped (`SoFar`), so many of them were executed and so many waited, their answers stand in
-- the buffer, and the bytes are a saved state, that after these events.
use Rattle.std.proofs.Common.{drop, take, true, ◌++◌, ◌≡◌}
use Rattle.events.specs.Laws.{SoFar, row}
use Rattle.machine.specs.Step.{advance}
use Rattle.number.specs.Refused.{done}
use Rattle.rows.specs.Rows.{Bytes}
use Rattle.saved.specs.Saved.{saved_good, state_in}
use Rattle.schedule.specs.Schedule.{events_of}
use Rattle.run.proofs.run_events.Given as goal

abbrev pub invariant-loop-i : goal.invariant-loop-i
invariant-loop-i l = record {
  so_far : SoFar advance (state_in l.fn.b) (events_of l.schedule) l.i (state_in l.b) l.report.executed l.report.waited;
  no_stop : l.report.stop ≡ done;
  stored : l.answers ≡ take l.i (row advance (state_in l.fn.b) (events_of l.schedule)) ++ drop l.i l.fn.answers;
  good : saved_good l.b ≡ true;
  bytes : Bytes l.b;
}
