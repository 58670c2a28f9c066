-- The laws of the run's loop over the bytes of a saved state. Rests on the laws of a row of events (crate `events`, Laws). Assumes nothing.
use Rattle.std.specs.Prelude.{false, true, List, ◌≡◌, ◌≢◌, ℕ, ◌+◌}
use Rattle.std.proofs.Common.{add-zero, ap, refl, sym, ◌∙◌}
use Rattle.events.specs.Laws.{Next, Over, SoFar, goes_on_lem}
use Rattle.events.specs.Row.{goes_on}
use Rattle.events.specs.declared.Event.{Event}
use Rattle.lock.specs.declared.State.{State}
use Rattle.machine.specs.Demands.{Tool}
use Rattle.machine.specs.Step.{advance}
use Rattle.machine.specs.Stepped.{Stepped}
use Rattle.number.specs.Answer.{number_of}
use Rattle.number.specs.Refused.{done, must_wait}
use Rattle.number.specs.declared.Refusal.{Refusal}
use Rattle.number.specs.declared.Refusal.TheVariants.{BadSchedule, BadSize, BadState, FollowedEmpty, FollowedUnused, MustWait, NoEntryLeft, NoPlaceLeft}
use Rattle.number.specs.declared.Refusal.TheVariants.{NoSuchThread, NodeTaken, TooShort, WrongNode}
use Rattle.rows.specs.Rows.{Bytes}
use Rattle.saved.specs.Proof.SaveRead.{save_read}
use Rattle.saved.specs.Saved.{bytes_of, saved_good, state_in}
use Rattle.schedule.specs.Schedule.{events_of}
use Rattle.run.specs.Run.{ran, ran_over, report_of, reported}
use Rattle.run.specs.declared.Ran.{Ran}

-- one event more that goes on: it was executed, or it waited
module _ (tool : Tool) (s₀ : State) (es : List Event) {i x w : ℕ} {s : State} {r : Stepped} (f : SoFar tool s₀ es i s x w) (next : Next tool s₀ es i s r) where
  pub executed_more : r.answer ≡ done → SoFar tool s₀ es (i + 1) r.state (x + 1) w
  executed_more e = rw (e, add-zero w) at (goes_on_lem tool s₀ es f next (rw e refl))

  pub waited_more : r.answer ≡ must_wait → SoFar tool s₀ es (i + 1) r.state x (w + 1)
  waited_more e = rw (e, add-zero x) at (goes_on_lem tool s₀ es f next (rw e refl))

-- any other refusal stops
pub stops_lem : (r : Refusal) → r ≢ MustWait → goes_on (number_of r) ≡ false
stops_lem BadState h = refl
stops_lem BadSchedule h = refl
stops_lem BadSize h = refl
stops_lem TooShort h = refl
stops_lem NoSuchThread h = refl
stops_lem WrongNode h = refl
stops_lem NoEntryLeft h = refl
stops_lem NodeTaken h = refl
stops_lem FollowedEmpty h = refl
stops_lem FollowedUnused h = refl
stops_lem NoPlaceLeft h = refl
stops_lem MustWait h = absurd (h refl)

-- where the row is over, the report and the bytes are the run's
pub over_gives : (b₀ b e : List ℕ) {n x w m : ℕ} → Bytes b → saved_good b ≡ true → Over advance (state_in b₀) (events_of e) n (state_in b) x w m
    → (reported x w m ≡ (ran_over (state_in b₀) e).report) × (b ≡ bytes_of (ran_over (state_in b₀) e).state)
unfolding ran_over report_of
over_gives b₀ b e {n} {x} {w} {m} bytes good o =
    let gives : ran (reported x w m) (state_in b) ≡ ran_over (state_in b₀) e =
    λ i. ran (reported (o.executed i) (o.waited i) (o.stopping i)) (o.end i) in
    (ap (λ (r : Ran). r.report) gives, sym (save_read b bytes good) ∙ ap (λ (r : Ran). bytes_of r.state) gives)
