-- A saved state is ready for the event of each of its threads: it holds the state that is read from it, which is valid. So the event that is executed in its
-- bytes is the definition's, and leaves a saved state again. Rests on the round trip of saved states (crate `saved`). Assumes nothing.
use Rattle.std.specs.Prelude.{Bool, false, true, List, ◌≡◌, ℕ}
use Rattle.std.proofs.Common.{sym}
use Rattle.std.proofs.Math.Decide.{ℕ_discrete}
use Rattle.cells.specs.Cells.{HasThread, Held, Shows}
use Rattle.cells.specs.Proof.Good.{held, laid}
use Rattle.figure.specs.Figure.{line}
use Rattle.lock.specs.Judged.{in_table}
use Rattle.lock.specs.Valid.{Valid}
use Rattle.lock.specs.declared.State.{State}
use Rattle.machine.specs.Step.{advance, advance_by, no_thread, step}
use Rattle.machine.specs.Theorems.{advance_is_step, refused_unchanged, valid_kept}
use Rattle.number.specs.Refused.{done, no_such_thread}
use Rattle.number.specs.declared.NodeNo.{NodeNo}
use Rattle.number.specs.declared.ThreadNo.{ThreadNo}
use Rattle.rows.specs.Rows.{Bytes}
use Rattle.saved.specs.Proof.Held.{bytes_good, held_valid}
use Rattle.saved.specs.Proof.SaveRead.{save_read}
use Rattle.saved.specs.Saved.{saved_good, state_by, state_in}
use Rattle.refusals.specs.Lines.{Ready}
use Rattle.event.specs.Event.{Advanced}

-- a thread that the state has, has a record
pub has_thread : (b : List ℕ) (t : ThreadNo) → saved_good b ≡ true → no_thread (state_in b).shared.threads t ≡ false → HasThread b t
unfolding state_by
has_thread b t good h =
    let here = in_table t.0 (state_in b).shared.threads h in
    record { laid = laid b good; from = here.from; to = here.to }

module _ (b : List ℕ) (bytes : Bytes b) (good : saved_good b ≡ true) where
  abbrev s : State
  s = state_in b

  -- whether there is no such thread is what the bytes show of it
  pub no_thread_shown : (t : ThreadNo) {r : Bool} → Shows b r (λ s. no_thread s.shared.threads t) → no_thread s.shared.threads t ≡ r
  no_thread_shown t shown = sym (shown s (held b bytes good))

  module _ (t : ThreadNo) (n : NodeNo) where
    -- 5
    pub no_thread_lem : no_thread s.shared.threads t ≡ true → Advanced b b t n no_such_thread
    unfolding advance
    no_thread_lem h = record { answer = rw h; bytes = rw h (sym (save_read b bytes good)) }

    module _ (is : no_thread s.shared.threads t ≡ false) where
      pub ready : Ready b t
      ready = record { has = has_thread b t good is; state = s; held = held b bytes good; valid = held_valid b good }

      -- 6 to 12, or 0
      pub advanced : (b' : List ℕ) (r : ℕ)
          → (r ≡ (advance_by (line s t) s t n).answer) × Held b' (advance_by (line s t) s t n).state → Advanced b b' t n r
      unfolding advance
      advanced b' r told = record { answer = rw is told.0; bytes = rw is told.1.whole }

-- an event leaves a valid state, whether it is accepted or refused
pub after_valid : (z : State) → Valid z → (t : ThreadNo) (n : NodeNo) → Valid (advance z t n).state
after_valid z rule t n = go (ℕ_discrete (step z t n).answer done)
  where
    go : Dec ((step z t n).answer ≡ done) → Valid (advance z t n).state
    go (yes h) = rw (advance_is_step z t n rule) (valid_kept z t n rule h)
    go (no h) = rw (advance_is_step z t n rule, refused_unchanged z t n h) rule

-- so the bytes after an event are a saved state again, that of the event's state
pub again_good : (b : List ℕ) → saved_good b ≡ true → (t : ThreadNo) (n : NodeNo) {b' : List ℕ} {r : ℕ} → Advanced b b' t n r
    → (saved_good b' ≡ true) × (state_in b' ≡ (advance (state_in b) t n).state)
again_good b good t n {b'} told =
    bytes_good b' (advance (state_in b) t n).state (after_valid (state_in b) (held_valid b good) t n) told.bytes
