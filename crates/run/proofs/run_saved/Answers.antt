-- `run::run_saved` meets its contract. A run that is not refused has good bytes, a good schedule and room for its answers. Assumes nothing.
use Rattle.std.proofs.Common.{Bool, List, ap, false, length, refl, sym, true, true≢false, ℕ, ◌≡◌, ◌∙◌}
use Rattle.number.specs.Answer.{answer_of, refused as no_done}
use Rattle.run.specs.Proof.Refused.{Passed, passed}
use Rattle.run.specs.Saved.{accepted_run, refused_run}
use Rattle.saved.specs.Proof.Held.{bad_valid, good_state}
use Rattle.saved.specs.Saved.{read, saved_good}
use Rattle.run.proofs.run_saved.Goals as goal

-- where nothing refuses the run, the bytes are good, since they hold a valid state
good : (b schedule : List ℕ) (room : ℕ) → Passed (read b).state schedule room → saved_good b ≡ true
good b schedule room p = by_test (saved_good b) refl
  where
    by_test : (x : Bool) → saved_good b ≡ x → saved_good b ≡ true
    by_test true e = e
    by_test false e = absurd (true≢false (sym p.state ∙ bad_valid b e))

pub run_events-requires : goal.run_events-requires
run_events-requires c =
    let a = c.args in
    let p = passed (read a.bytes.now).state a.schedule.now (length a.answers.now) (sym c.judged_with_saved.ensures.refusal ∙ ap answer_of c.in-Ok.is) in
    (good a.bytes.now _ _ p, c.in-Ok.schedule.judged, rw c.in-Ok.ensures.same p.answers)

pub returns-in-Ok : goal.returns-in-Ok
returns-in-Ok c =
    let a = c.args in
    let none = sym c.judged_with_saved.ensures.refusal ∙ ap answer_of c.in-Ok.is in
    let p = passed (read a.bytes.now).state a.schedule.now (length a.answers.now) none in
    let to = accepted_run a.bytes.now a.schedule.now a.answers.now none in
    let same = rw (← good_state a.bytes.now (good a.bytes.now _ _ p), c.in-Ok.ensures.same) at c.run_events.ensures in
    record { reports = same.gives ∙ to.0; leaves = same.leaves ∙ to.1; stores = same.stores ∙ to.2 }

pub returns-in-Err : goal.returns-in-Err
returns-in-Err c =
    let a = c.args in
    let to = refused_run a.bytes.now a.schedule.now a.answers.now (sym (ap answer_of c.in-Err.is) ∙ c.judged_with_saved.ensures.refusal) (no_done c.in-Err.refusal) in
    record { reports = c.refused.ensures ∙ to.0; leaves = to.1; stores = to.2 }
