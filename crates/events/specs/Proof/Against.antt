-- A row against the figure: each event of a valid state is executed as Figure 1 says, or refused as the table says, and no other run does so.
-- By induction over the row, and over the run. Rests on the step's theorems (sound, complete, exactly-when). Assumes nothing.
use Rattle.std.specs.Prelude.{false, true, List, [], ◌∷◌, ◌≡◌, refl, ℕ}
use Rattle.std.proofs.Common.{ap, sym, ◌∙◌}
use Rattle.std.proofs.Math.Decide.{ℕ_discrete}
use Rattle.figure.specs.Figure.{Figure}
use Rattle.lock.specs.Valid.{Valid}
use Rattle.lock.specs.declared.State.{State}
use Rattle.number.specs.Refused.{done}
use Rattle.number.specs.declared.NodeNo.{NodeNo}
use Rattle.number.specs.declared.ThreadNo.{ThreadNo}
use Rattle.machine.specs.Step.{advance, step, stepped}
use Rattle.machine.specs.Theorems.{accepted_possible}
use Rattle.machine.proofs.Theorems.{complete, sound}
use Rattle.machine.specs.Stepped.{Stepped}
use Rattle.events.specs.FigureRun.{FigureRun}
use Rattle.events.specs.FigureRun.FigureRun.{executed, no_events, stopped, waited}
use Rattle.events.specs.Proof.Answers.{on_waits, stop_not_done, wait_goes_on, wait_not_done}
use Rattle.events.specs.Proof.Judged.{answer_first, is_step, refused, state_valid, stays}
use Rattle.events.specs.Proof.Rows.{by_events}
use Rattle.events.specs.Row.{goes_on, row_answers, row_end}
use Rattle.events.specs.declared.Event.{Event}

-- ---- our row is a run of the figure
module _ (s : State) (e : Event) (rule : Valid s) where
  abbrev t : ThreadNo
  t = e.thread

  abbrev n : NodeNo
  n = e.node

  abbrev r : Stepped
  r = advance s t n

  accepted : r.answer ≡ done → (step s t n).answer ≡ done
  accepted h = ap (λ (x : Stepped). x.answer) (sym (is_step s t n rule)) ∙ h

  leads : r.answer ≡ done → Figure t n s r.state
  leads h = rw (is_step s t n rule) (sound s t n rule (accepted h))

  -- an event that goes on, in front of a run of the later ones
  goes : {es : List Event} {later : List ℕ} {s'' : State} → goes_on r.answer ≡ true → FigureRun r.state es later s''
      → FigureRun s (e ∷ es) (r.answer ∷ later) s''
  goes {es} {later} {s''} h run = by (ℕ_discrete r.answer done)
    where
      by : Dec (r.answer ≡ done) → FigureRun s (e ∷ es) (r.answer ∷ later) s''
      by (yes a) = rw a (executed (accepted_possible s t n rule (accepted a)) (leads a) run)
      by (no a) = waited (answer_first s t n rule) (on_waits r.answer h a) (rw (stays s t n rule a) at run)

  -- an event that stops
  stops : {es : List Event} → goes_on r.answer ≡ false → FigureRun s (e ∷ es) (r.answer ∷ []) r.state
  stops h = rw (stays s t n rule (stop_not_done r.answer h)) (stopped (answer_first s t n rule) h)

pub row_figure : (s : State) (es : List Event) → Valid s → FigureRun s es (row_answers advance s es) (row_end advance s es)
unfolding row_answers row_end
row_figure =
    by_events advance (λ s es. Valid s → FigureRun s es (row_answers advance s es) (row_end advance s es))
    (λ s rule. no_events)
    (λ s e es h later rule. rw h (goes s e rule h (later (state_valid s e.thread e.node rule))))
    (λ s e es h rule. rw h (stops s e rule h))

-- ---- and there is no other
pub figure_run_only : {s s' : State} {es : List Event} {told : List ℕ} → Valid s → FigureRun s es told s'
    → (told ≡ row_answers advance s es) × (s' ≡ row_end advance s es)
unfolding row_answers row_end
figure_run_only rule no_events = (refl, refl)
figure_run_only {s} rule (executed {s'} {e} p f run) =
    let gives : advance s e.thread e.node ≡ stepped done s' =
    is_step s e.thread e.node rule ∙ complete s e.thread e.node s' rule p f in
    let rest = figure_run_only (rw gives at (state_valid s e.thread e.node rule)) run in
    rw gives (ap (λ (l : List ℕ). done ∷ l) rest.0, rest.1)
figure_run_only {s} rule (waited {e} {m} f w run) =
    let rest = figure_run_only rule run in
    rw (refused s e.thread e.node rule m f (wait_not_done m w), wait_goes_on m w) (ap (λ (l : List ℕ). m ∷ l) rest.0, rest.1)
figure_run_only {s} rule (stopped {e} {m} f h) = rw (refused s e.thread e.node rule m f (stop_not_done m h), h) (refl, refl)
