-- What the questions promise: the theorems that a buyer needs, each under a plain sentence. The arguments are in Proof. (`Sized s`: the tables have room
-- for 32 each. In code their type says so.) Assumes nothing.
use Rattle.std.specs.Prelude.{Bool, cond, false, List, ◌++◌, ◌≢◌, ◌↔◌, ◌≡◌, refl, ℕ, ◌+◌, ◌≤◌, ◌<◌, drop, eqb, get_or, length}
use Rattle.std.proofs.Common.{Err, Ok, Result, ap, sym, ◌∙◌}
use Rattle.lock.specs.State.{◌⟨shared≔◌⟩, ◌⟨thread◌≔◌⟩, ◌⟨used≔◌⟩, thread_at}
use Rattle.lock.specs.Valid.{Between, Sized, Valid}
use Rattle.lock.specs.declared.State.{State}
use Rattle.lock.specs.declared.Thread.{Thread}
use Rattle.number.specs.Answer.{told_apart}
use Rattle.number.specs.OneResult.{only}
use Rattle.number.specs.Refused.{bad_state, done}
use Rattle.number.specs.declared.NodeNo.{NodeNo}
use Rattle.number.specs.declared.Refusal.{Refusal}
use Rattle.number.specs.declared.ThreadNo.{ThreadNo}
use Rattle.word.specs.Word.{how_many_to}
use Rattle.ask.specs.Ask.{answered, asked_status, chain, chain_bytes, chain_from, free, held, how_many_threads, nodes_in_use, number_of_status}
use Rattle.ask.specs.Ask.{refused, status, waiting}
use Rattle.ask.specs.declared.LockStatus.{LockStatus}
use Rattle.ask.specs.declared.LockStatus.TheVariants.{Free, Held, Passing}
use Rattle.ask.specs.Meaning.{ChainOf, First, StatusIs, at16or19, chain_conditions}
use Rattle.ask.specs.Proof.Answer
use Rattle.ask.specs.Proof.Chain
use Rattle.ask.specs.Proof.Count
use Rattle.ask.specs.Proof.InUse
use Rattle.ask.specs.Proof.Status
use Rattle.ask.specs.Proof.Waits
use Rattle.ask.specs.Asked.{Asked}

-- ---- status

-- In a valid state the number is 0, and the value is 1, 2 or 3, each exactly when document 01 says.
pub status_exactly : (s : State) → Valid s → ((status s).number ≡ done) × StatusIs s (status s).value
status_exactly = Status.status_exactly

-- A state that breaks a rule gives 1 and value 0.
pub status_refused : (s : State) → Sized s → ¬ Valid s → status s ≡ refused bad_state
unfolding status
status_refused s = Answer.judged_refused s _

-- No second result fits the promise of `status`.
pub status_one_result : (s : State) (r r' : Asked) → r ≡ status s → r' ≡ status s → r ≡ r'
status_one_result s r r' = only

-- .. and no second answer of the call stands for it.
abbrev status_with : ℕ → LockStatus
status_with n = cond (eqb n free) Free (cond (eqb n held) Held Passing)

back : (a : LockStatus) → status_with (number_of_status a) ≡ a
back Free = refl
back Held = refl
back Passing = refl

same_status : (a a' : LockStatus) → asked_status (Ok a) ≡ asked_status (Ok a') → a ≡ a'
same_status a a' e = sym (back a) ∙ ap (λ (x : Asked). status_with x.value) e ∙ back a'

pub status_one_answer : (s : State) (r r' : Result LockStatus Refusal) → asked_status r ≡ status s → asked_status r' ≡ status s → r ≡ r'
status_one_answer s r r' p q = told_apart asked_status (λ a. a.number) (elim [ Ok a ↦ refl | Err r ↦ refl ]) same_status r r' (only p q)

-- ---- waiting

-- In a valid state the number is 0, and the value is the number of threads at line 16 or 19.
pub waiting_lines : (s : State) → Valid s → waiting s ≡ answered (how_many_threads at16or19 s)
waiting_lines = Waits.waiting_lines

-- A state that breaks a rule gives 1 and value 0.
pub waiting_refused : (s : State) → Sized s → ¬ Valid s → waiting s ≡ refused bad_state
unfolding waiting
waiting_refused s = Answer.judged_refused s _

-- No second result fits the promise of `waiting`.
pub waiting_one_result : (s : State) (r r' : Asked) → r ≡ waiting s → r' ≡ waiting s → r ≡ r'
waiting_one_result s r r' = only

-- ---- what it means to count threads

-- None is counted exactly if none of the threads 1 to T passes the test ..
pub count_none : (test : Thread → Bool) (s : State)
    → (how_many_threads test s ≡ 0) ↔ ((t : ThreadNo) → Between 1 t.0 s.shared.threads → test (thread_at s t) ≡ false)
count_none test s = (Count.none_passes s.shared.threads test s, Count.none_counted s.shared.threads test s)

-- .. and where a thread is stored, the one that stood there is no longer counted, and the new one is.
pub count_stored : (test : Thread → Bool) (s : State) (t : ThreadNo) (v : Thread) → Valid s → Between 1 t.0 s.shared.threads
    → how_many_threads test (s ⟨thread t ≔ v ⟩) + cond (test (thread_at s t)) 1 0 ≡ how_many_threads test s + cond (test v) 1 0
count_stored = Count.count_stored

-- Counting looks at T and the threads alone.
pub count_alike : (test : Thread → Bool) (s s' : State) → s'.thread ≡ s.thread → s'.shared.threads ≡ s.shared.threads
    → how_many_threads test s' ≡ how_many_threads test s
count_alike = Count.count_alike

-- ---- nodes in use

-- In a valid state the number is 0, and the value is how many of the nodes 1 to K are in use.
pub in_use_nodes : (s : State) → Valid s → nodes_in_use s ≡ answered (how_many_to s.shared.nodes s.shared.used)
in_use_nodes = InUse.in_use_nodes

-- A state that breaks a rule gives 1 and value 0.
pub in_use_refused : (s : State) → Sized s → ¬ Valid s → nodes_in_use s ≡ refused bad_state
unfolding nodes_in_use
in_use_refused s = Answer.judged_refused s _

-- No second result fits the promise of `in_use`.
pub in_use_one_result : (s : State) (r r' : Asked) → r ≡ nodes_in_use s → r' ≡ nodes_in_use s → r ≡ r'
in_use_one_result s r r' = only

-- ---- chain

-- The number is that of the first condition of document 01 that applies, and 0 if none does.
pub chain_exactly : (s : State) (from : NodeNo) (out : List ℕ) → Sized s
    → (m : ℕ) → ((chain s from out).number ≡ m) ↔ First (chain_conditions s from (length out)) m
unfolding chain
chain_exactly s from out = Answer.exactly s from (length out)

-- A refused chain question gives its number and value 0, and leaves every byte.
pub chain_refused : (s : State) (from : NodeNo) (out : List ℕ) → (chain s from out).number ≢ done
    → (chain s from out ≡ refused (chain s from out).number) × (chain_bytes s from out ≡ out)
unfolding chain
chain_refused = Answer.chain_refused

-- From a node 1 to K there is a chain ..
pub chain_is : (s : State) (from : NodeNo) → Between 1 from.0 s.shared.nodes → ChainOf s from (chain_from s.shared.nodes s from)
chain_is = Chain.chain_is

-- .. and no second one: the sentence of document 01 fixes the list ..
pub chain_only : (s : State) (from : NodeNo) (list list' : List ℕ) → ChainOf s from list → ChainOf s from list' → list ≡ list'
chain_only = Chain.chain_only

-- .. and a chain question that is not refused gives its length, and writes it at the start of the output; the bytes after it stay.
pub chain_answer : (s : State) (from : NodeNo) (out list : List ℕ) → (chain s from out).number ≡ done → ChainOf s from list
    → (chain s from out ≡ answered (length list)) × (chain_bytes s from out ≡ list ++ drop (length list) out)
chain_answer = Chain.chain_answer

-- Whatever is asked, each byte from the value on is as it was.
pub chain_bytes_stay : (s : State) (from : NodeNo) (out : List ℕ) (i : ℕ) → (chain s from out).value ≤ i
    → get_or (chain_bytes s from out) i 0 ≡ get_or out i 0
chain_bytes_stay = Answer.bytes_stay

-- In a valid state each number of the chain is 1 to K, and so fits its byte.
pub chain_entries : (s : State) → Valid s → (from : NodeNo) → Between 1 from.0 s.shared.nodes
    → (i : ℕ) → let list = chain_from s.shared.nodes s from in i < length list → Between 1 (get_or list i 0) s.shared.nodes
chain_entries = Chain.chain_entries

-- "Nodes not in use are walked too": with any other nodes in use the chain is the same.
pub chain_used : (s : State) (used left : ℕ) (k : NodeNo) → chain_from left (s ⟨shared≔ s.shared ⟨used≔ used ⟩ ⟩) k ≡ chain_from left s k
chain_used = Chain.chain_used

-- No second result, and no second content of the output, fits the promise of `chain`.
pub chain_one_result : (s : State) (from : NodeNo) (out : List ℕ) (r r' : Asked) (after after' : List ℕ)
    → (r ≡ chain s from out) × (after ≡ chain_bytes s from out) → (r' ≡ chain s from out) × (after' ≡ chain_bytes s from out) → (r ≡ r') × (after ≡ after')
chain_one_result s from out r r' after after' p q = (only p.0 q.0, only p.1 q.1)
