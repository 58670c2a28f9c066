-- What `sedge_run` promises of the bytes of the state: the theorems of specs/Theorems that a change of what these are to be can refute, each under a plain
-- sentence. The arguments are in RunLeft, in specs/Proof, and in the theorems of the crates below. Assumes nothing.
use Rattle.std.specs.Prelude.{List, ◌≡◌, ℕ, length}
use Rattle.std.proofs.Common.{ap, ◌∙◌}
use Rattle.events.specs.FigureRun.{FigureRun}
use Rattle.lock.specs.Fresh.{opened}
use Rattle.lock.specs.Valid.{Between}
use Rattle.lock.specs.declared.State.{State}
use Rattle.number.specs.Refused.{bad_state, done, too_short}
use Rattle.rows.specs.Rows.{over}
use Rattle.run.specs.Run.{report_of}
use Rattle.run.specs.Theorems.{run_figure}
use Rattle.run.specs.declared.Ran.{Ran}
use Rattle.saved.specs.Saved.{read}
use Rattle.schedule.specs.Schedule.{events_of}
use Rattle.board.specs.Board.{held_in, run_answers, run_number, run_of, run_report, run_saved}
use Rattle.board.specs.Proof.Runs
use Rattle.board.specs.Theorems.{RunRefused}
use Rattle.board.proofs.RunLeft

-- ---- sedge_run
module _ (b schedule answers : List ℕ) where
  -- "Refusals 1 to 4 .. change nothing": every byte of the state and of the answers stays, the counts are 0, and the whole schedule is unread.
  pub sedge_run_refused : Between bad_state (run_number b schedule answers) too_short → RunRefused b schedule answers
  sedge_run_refused low = record {
    state_stays = RunLeft.of_refused b schedule answers low;
    answers_stay = Runs.answers_stay b schedule answers low;
    none_executed = (Runs.no_counts b schedule answers low).0;
    none_waited = (Runs.no_counts b schedule answers low).1;
    whole_unread = Runs.whole_unread b schedule answers low;
  }

  module _ (off : ¬ Between bad_state (run_number b schedule answers) too_short) where
    -- The bytes are read as the state that the run ends in, and there are as many of them as before.
    pub sedge_run_accepted : (read (run_saved b schedule answers) ≡ opened done (run_of b schedule answers).state)
        × (length (run_saved b schedule answers) ≡ length b)
    sedge_run_accepted = RunLeft.reads_end b schedule answers off

    -- However Figure 1 and the table of refusals answer the events, these are the run's answers, its counts, its stopping number and the state that
    -- the bytes then hold.
    pub sedge_run_figure : (told : List ℕ) (s' : State) → FigureRun (held_in b) (events_of schedule) told s'
        → (run_report b schedule answers ≡ report_of told) × (run_answers b schedule answers ≡ over told answers)
        × (read (run_saved b schedule answers) ≡ opened done s')
    sedge_run_figure told s' f =
        let is = run_figure (held_in b) schedule answers (Runs.accepted b schedule answers off) told s' f in
        (ap (λ (r : Ran). r.report) is.0, is.1, sedge_run_accepted.0 ∙ ap (λ (r : Ran). opened done r.state) is.0)
