-- What the promises of `fresh` and `valid` come to: a fresh state is as the rule says, what `fresh` gives in each case, and that no second result fits.
-- A fresh state has one idle thread at each number up to T and 0 everywhere else, and each of these few numbers is in its range.
-- Rests on Laws and Judged. Assumes nothing.
use Rattle.std.specs.Prelude.{Bool, true, false, ◌≡◌, ℕ, ◌-◌}
use Rattle.std.proofs.Common.{Result, arith, length-append, pow_pos}
use Rattle.std.proofs.lemmas.List.{length-replicate}
use Rattle.number.specs.declared.Refusal.{Refusal}
use Rattle.number.specs.OneResult.{only}
use Rattle.number.specs.Refused.{bad_size, done}
use Rattle.number.specs.Sizes.{most_nodes, most_threads}
use Rattle.lock.specs.Fresh.{Opened, fresh, fresh_state, idle, idle_to, in_size, one_opened, opened, opened_of}
use Rattle.lock.specs.Judged.{size_rule}
use Rattle.lock.specs.Laws.{nth_after_front, nth_front}
use Rattle.lock.specs.State.{table_size, zero_node, zero_state, zero_thread}
use Rattle.lock.specs.Valid.{Between, Valid, valid}
use Rattle.lock.specs.declared.State.{State}

-- T and K of 1 to 32 give success and the fresh state.
pub fresh_accepted : (T K : ℕ) → in_size T K ≡ true → fresh T K ≡ opened done (fresh_state T K)
unfolding fresh
fresh_accepted T K h = rw h

-- Any other T and K give refusal 3 and a state with 0 everywhere.
pub fresh_refused : (T K : ℕ) → in_size T K ≡ false → fresh T K ≡ opened bad_size zero_state
unfolding fresh
fresh_refused T K h = rw h

-- A fresh state is as the rule says.
pub fresh_valid : (T K : ℕ) → in_size T K ≡ true → Valid (fresh_state T K)
unfolding idle_to
fresh_valid T K h =
    let size : Between 1 T most_threads × Between 1 K most_nodes = size_rule T K h in
    record {
      shared = omega (arith, pow_pos K);
      node = λ j a b. rw (nth_after_front zero_node zero_node 0 table_size j.0 a) (omega arith);
      thread = λ j a b. rw (nth_front idle zero_thread T (table_size - T) j.0 a b) (omega arith);
      past_nodes = λ j a. nth_after_front zero_node zero_node 0 table_size j.0 (omega arith);
      past_threads = λ j a. nth_after_front idle zero_thread T (table_size - T) j.0 a;
      sized = record { nodes = length-replicate table_size zero_node; threads = simp (length-append, length-replicate) (omega arith) };
    }

-- No second result fits the promise of `fresh`.
pub fresh_one_result : (T K : ℕ) (r r' : Opened) → r ≡ fresh T K → r' ≡ fresh T K → r ≡ r'
fresh_one_result T K r r' p q = only p q

-- .. and no second answer of the call stands for it.
pub fresh_one_answer : (T K : ℕ) (r r' : Result State Refusal) → opened_of r ≡ fresh T K → opened_of r' ≡ fresh T K → r ≡ r'
fresh_one_answer T K r r' p q = one_opened r r' (only p q)

-- No second result fits the promise of `valid`.
pub valid_one_result : (s : State) (r r' : Bool) → r ≡ valid s → r' ≡ valid s → r ≡ r'
valid_one_result s r r' p q = only p q
