-- The bytes that a run over a lent saved state leaves. Refused, they are those that were lent; else the state it ends in is valid and has the same T and K, so
-- its bytes are as many as those that were read. Rests on specs/Proof/Runs and on the theorems of `run` and `saved`. Assumes nothing.
use Rattle.std.specs.Prelude.{false, true, List, ◌≢◌, ◌≡◌, ℕ, leb, length}
use Rattle.std.proofs.Math.Logic.{by_cases}
use Rattle.std.proofs.Common.{sym, ◌∙◌}
use Rattle.std.proofs.Math.Decide.{ℕ_discrete}
use borrow.Author.Tests.{eq-eqb, le-leb, leb-true, ne_eqb}
use Rattle.lock.specs.Fresh.{opened}
use Rattle.lock.specs.Valid.{Between, Valid}
use Rattle.lock.specs.declared.State.{State}
use Rattle.number.specs.Refused.{bad_state, done, too_short}
use Rattle.number.specs.Tests.{both_hold, cannot_hold, first_holds, second_holds}
use Rattle.run.specs.Run.{refusal, run}
use Rattle.run.specs.Saved.{run_left}
use Rattle.run.specs.Theorems.{run_size, run_valid}
use Rattle.saved.specs.Saved.{bytes_of, read}
use Rattle.saved.specs.Theorems.{good_file, read_save, read_size, saved_size}
use Rattle.board.specs.Board.{held_in, is_refusal, run_number, run_of, run_saved}
use Rattle.board.specs.Proof.Held.{held_valid}
use Rattle.board.specs.Proof.Runs.{accepted, accepted_not_low, refused_low}

-- ---- 1 to 4, by the test and as a range
is_refusal_lem : (m : ℕ) → Between bad_state m too_short → is_refusal m ≡ true
is_refusal_lem m low = both_hold (le-leb _ _ low.from) (le-leb _ _ low.to)

refusal_is : (m : ℕ) → is_refusal m ≡ true → Between bad_state m too_short
refusal_is m h = record {
  from = leb-true _ _ (first_holds (leb bad_state m) (leb m too_short) h);
  to = leb-true _ _ (second_holds (leb bad_state m) (leb m too_short) h);
}

no_refusal : (m : ℕ) → ¬ Between bad_state m too_short → is_refusal m ≡ false
no_refusal m off = cannot_hold (is_refusal m) (λ h. off (refusal_is m h))

module _ (b e o : List ℕ) where
  abbrev s : State
  s = held_in b

  -- ---- refused
  module _ (low : Between bad_state (run_number b e o) too_short) where
    pub of_refused : run_saved b e o ≡ b
    unfolding run_saved
    of_refused = rw (is_refusal_lem _ low)

  -- ---- not refused
  module _ (off : ¬ Between bad_state (run_number b e o) too_short) where
    abbrev end : State
    end = (run_of b e o).state

    opens : (read b).number ≡ done
    opens = (good_file b).1 ((held_valid b).0 (accepted b e o off).state)

    end_valid : Valid end
    end_valid = run_valid s e o (accepted b e o off)

    same_length : length (bytes_of end) ≡ length b
    same_length =
        let same = run_size s e o (accepted b e o off) in
        (saved_size end end_valid).0 ∙ rw (same.threads, same.nodes) (sym (read_size b opens))

    of_accepted : run_saved b e o ≡ bytes_of end
    unfolding run_saved
    of_accepted = rw (no_refusal _ off)

    pub reads_end : (read (run_saved b e o) ≡ opened done end) × (length (run_saved b e o) ≡ length b)
    reads_end = rw of_accepted (read_save end end_valid, same_length)

  -- ---- the bytes that the run in place leaves are those that the call promises
  left_end : refusal s e (length o) ≡ done → run_left b e o ≡ bytes_of (run_of b e o).state
  unfolding run_left run
  left_end z = rw (eq-eqb _ _ z)

  left_same : refusal s e (length o) ≢ done → run_left b e o ≡ b
  unfolding run_left
  left_same z = rw (ne_eqb _ _ z)

  pub left_is : run_left b e o ≡ run_saved b e o
  left_is =
      by_cases (ℕ_discrete (refusal s e (length o)) done)
      (λ on. left_end on ∙ sym (of_accepted (accepted_not_low b e o on)))
      (λ off. left_same off ∙ sym (of_refused (refused_low b e o off)))
