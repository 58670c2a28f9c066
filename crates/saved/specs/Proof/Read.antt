-- What the number of a reading says: whether the file is good. By cases of the test. Assumes nothing.
use Rattle.std.specs.Prelude.{Bool, cond, false, true, List, ◌≢◌, ◌≡◌, refl, ℕ}
use Rattle.std.proofs.Common.{arith}
use Rattle.lock.specs.Fresh.{opened}
use Rattle.lock.specs.State.{zero_state}
use Rattle.lock.specs.Fresh.{Opened}
use Rattle.number.specs.Refused.{bad_state, done}
use Rattle.saved.specs.Saved.{read, saved_good, state_in}

module _ (b : List ℕ) where
  -- the reading, for a test that the file is good
  abbrev reading : Bool → Opened
  reading good = cond good (opened done (state_in b)) (opened bad_state zero_state)

  of_done : (good : Bool) → (reading good).number ≡ done → good ≡ true
  of_done true h = refl
  of_done false h = absurd (omega arith)

  of_bad : (good : Bool) → (reading good).number ≢ done → reading good ≡ opened bad_state zero_state
  of_bad true h = absurd (h refl)
  of_bad false h = refl

  pub done_good : (read b).number ≡ done → saved_good b ≡ true
  unfolding read
  done_good h = of_done (saved_good b) h

  pub good_read : saved_good b ≡ true → read b ≡ opened done (state_in b)
  unfolding read
  good_read h = rw h

  pub bad_read : (read b).number ≢ done → read b ≡ opened bad_state zero_state
  unfolding read
  bad_read h = of_bad (saved_good b) h
