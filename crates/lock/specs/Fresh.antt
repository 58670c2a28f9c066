-- Document 01, "The state", the paragraph "Fresh", and refusal 3. Assumes nothing.
use Rattle.std.specs.Prelude.{Bool, cond, ◌&&◌, List, ◌++◌, ◌≡◌, refl, ℕ, ◌-◌, leb, replicate}
use Rattle.std.proofs.Common.{Err, Ok, Result, ap}
use Rattle.number.specs.Answer.{number_of, told_apart}
use Rattle.number.specs.Numbers.{bottom, place}
use Rattle.number.specs.Refused.{bad_size, done}
use Rattle.number.specs.declared.Refusal.{Refusal}
use Rattle.number.specs.Sizes.{most_nodes, most_threads}
use Rattle.lock.specs.State.{◌⟨line≔◌⟩, table_size, zero_node, zero_state, zero_thread}
use Rattle.lock.specs.declared.Shared.{Shared}
use Rattle.lock.specs.declared.State.{State}
use Rattle.lock.specs.declared.Thread.{Thread}

-- T and K are 1 to 32
abbrev pub in_size : ℕ → ℕ → Bool
in_size T K = leb 1 T && leb T most_threads && leb 1 K && leb K most_nodes

-- "each thread at line 11, every other number 0"
abbrev pub idle : Thread
idle = zero_thread ⟨line≔ 11 ⟩

-- the first T threads idle, and 0 in every place past T
unfoldable pub idle_to : ℕ → List Thread
idle_to T = replicate T idle ++ replicate (table_size - T) zero_thread

-- "Fresh: flag 1, tail 0, low = high = 1, entered 0, no node in use, each thread at line 11, every other number 0."
abbrev pub fresh_shared : ℕ → ℕ → Shared
fresh_shared T K = record {
  threads = T;
  nodes = K;
  flag = 1;
  tail = bottom;
  mess = bottom;
  low = place 1;
  high = place 1;
  entered = 0;
  used = 0;
}

abbrev pub fresh_state : ℕ → ℕ → State
fresh_state T K = record { shared = fresh_shared T K; node = replicate table_size zero_node; thread = idle_to T }

-- what a call that makes a state gives: 0 and the state, or the refusal and a state with 0 everywhere
pub record Opened : Type 0 where
  pub number : ℕ
  pub state : State

abbrev pub opened : ℕ → State → Opened
opened number s = record { number = number; state = s }

-- 3, "a fresh state is asked with T or K outside 1 to 32"; "a refused reading or fresh call gives a state with 0 everywhere"
unfoldable pub fresh : ℕ → ℕ → Opened
fresh T K = cond (in_size T K) (opened done (fresh_state T K)) (opened bad_size zero_state)

-- the number and the state that each case of an answer stands for: "a refused reading or fresh call gives a state with 0 everywhere"
abbrev pub opened_of : Result State Refusal → Opened
opened_of (Ok s) = opened done s
opened_of (Err r) = opened (number_of r) zero_state

-- no two answers stand for the same
pub one_opened : (r r' : Result State Refusal) → opened_of r ≡ opened_of r' → r ≡ r'
one_opened = told_apart opened_of (λ o. o.number) (elim [ Ok s ↦ refl | Err r ↦ refl ]) (λ s s' e. ap (λ (o : Opened). o.state) e)
