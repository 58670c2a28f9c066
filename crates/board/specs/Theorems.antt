-- What the calls for C and Rust promise: the theorems that a buyer needs, each under a plain sentence, call by call. The arguments are in Proof, and in
-- the theorems of the crates below. Assumes nothing.
-- `sedge_run_refused`, `sedge_run_accepted` and `sedge_run_figure` stand in proofs/Theorems: what the bytes of a state are after a run decides them.
use Rattle.std.specs.Prelude.{List, ◌++◌, ◌≢◌, ◌⊎◌, ◌↔◌, ◌≡◌, ℕ, drop, length, take}
use Rattle.std.proofs.Common.{ap}
use Rattle.ask.specs.Ask.{answered, how_many_threads, refused}
use Rattle.ask.specs.Meaning.{ChainOf, StatusIs, at16or19}
use Rattle.ask.specs.Theorems.{chain_answer, chain_exactly, chain_refused, in_use_nodes, status_exactly, waiting_lines}
use Rattle.ask.specs.Asked.{Asked}
use Rattle.lent.specs.Lent.{lent_conditions}
use Rattle.lent.specs.Theorems.{lent_accepted, lent_exactly, lent_refused}
use Rattle.lock.specs.Fresh.{fresh_state, opened}
use Rattle.lock.specs.Valid.{Between}
use Rattle.number.specs.First.{First, NoneApply}
use Rattle.number.specs.Numbers.{node, thread}
use Rattle.number.specs.OneResult.{only}
use Rattle.number.specs.Refused.{bad_state, done, no_place_left, no_such_thread, too_short}
use Rattle.rows.specs.Rows.{Bytes, laid}
use Rattle.run.specs.Run.{answers_of}
use Rattle.run.specs.Theorems.{run_stops, unread_rest}
use Rattle.saved.specs.Saved.{SavedFile, read, size}
use Rattle.schedule.specs.Schedule.{event_record, events_of}
use Rattle.machine.specs.Step.{step}
use Rattle.word.specs.Word.{how_many_to}
use Rattle.board.specs.Board.{RunGives, ask_chain, ask_chain_bytes, ask_chain_conditions, ask_in_use, ask_status, ask_waiting, check_number, fresh_bytes}
use Rattle.board.specs.Board.{fresh_conditions, fresh_number, held_in, run_answers, run_conditions, run_number, run_report, run_saved, run_unread}
use Rattle.board.specs.Board.{saved_conditions, step_bytes, step_number}
use Rattle.board.specs.Proof.Asked as Question
use Rattle.board.specs.Proof.Fresh
use Rattle.board.specs.Proof.Held
use Rattle.board.specs.Proof.Held.{first_same, held_sized, held_valid, saved_valid}
use Rattle.board.specs.Proof.Runs

-- ---- sedge_fresh
module _ (T K : ℕ) (out : List ℕ) where
  -- The number is that of the first condition of document 01 that applies: 3, T or K outside 1 to 32; 4, the output is too short.
  pub sedge_fresh_exactly : (m : ℕ) → (fresh_number T K out ≡ m) ↔ First (fresh_conditions T K out) m
  sedge_fresh_exactly = Fresh.exactly T K out

  -- Accepted, the start of the output is read as the fresh state, and the bytes after it stay.
  pub sedge_fresh_accepted : fresh_number T K out ≡ done
      → (read (take (size T K) (fresh_bytes T K out)) ≡ opened done (fresh_state T K)) × (drop (size T K) (fresh_bytes T K out) ≡ drop (size T K) out)
  sedge_fresh_accepted = Fresh.reads_fresh T K out

  -- Refused, every byte stays.
  pub sedge_fresh_refused : fresh_number T K out ≢ done → fresh_bytes T K out ≡ out
  sedge_fresh_refused = Fresh.of_refused T K out

  -- Two results that both meet the promise are equal: the number, and the bytes of the output.
  pub sedge_fresh_one_result : (r r' : ℕ) (after after' : List ℕ) → (r ≡ fresh_number T K out) × (after ≡ fresh_bytes T K out)
      → (r' ≡ fresh_number T K out) × (after' ≡ fresh_bytes T K out) → (r ≡ r') × (after ≡ after')
  sedge_fresh_one_result r r' after after' p q = (only p.0 q.0, only p.1 q.1)

-- ---- sedge_check

-- 1 exactly if the bytes are no saved state, and else 0.
pub sedge_check_exactly : (b : List ℕ) (m : ℕ) → (check_number b ≡ m) ↔ First (saved_conditions b) m
sedge_check_exactly = Held.check_exactly

pub sedge_check_one_result : (b : List ℕ) (r r' : ℕ) → r ≡ check_number b → r' ≡ check_number b → r ≡ r'
sedge_check_one_result b r r' = only

-- ---- sedge_step
module _ (b : List ℕ) (t n : ℕ) where
  -- The number is that of the first condition of document 01 that applies: 1, the bytes are no saved state; then the event's own, 5 to 12.
  pub sedge_step_exactly : (m : ℕ) → (step_number b t n ≡ m) ↔ First (lent_conditions b (thread t) (node n)) m
  sedge_step_exactly = lent_exactly b (thread t) (node n)

  -- Accepted, the bytes are read as the state after the step, and there are as many of them as before.
  pub sedge_step_accepted : step_number b t n ≡ done
      → (read (step_bytes b t n) ≡ opened done (step (held_in b) (thread t) (node n)).state) × (length (step_bytes b t n) ≡ length b)
  sedge_step_accepted = lent_accepted b (thread t) (node n)

  -- Refused, every byte stays.
  pub sedge_step_refused : step_number b t n ≢ done → step_bytes b t n ≡ b
  sedge_step_refused = lent_refused b (thread t) (node n)

  -- Two results that both meet the promise are equal: the number, and the bytes.
  pub sedge_step_one_result : (r r' : ℕ) (after after' : List ℕ) → (r ≡ step_number b t n) × (after ≡ step_bytes b t n)
      → (r' ≡ step_number b t n) × (after' ≡ step_bytes b t n) → (r ≡ r') × (after ≡ after')
  sedge_step_one_result r r' after after' p q = (only p.0 q.0, only p.1 q.1)

-- ---- sedge_run
module _ (b schedule answers : List ℕ) where
  -- Each number of 1 to 4 is given exactly when its condition is the first that applies.
  pub sedge_run_exactly : (m : ℕ) → Between bad_state m too_short
      → (run_number b schedule answers ≡ m) ↔ First (run_conditions b schedule (length answers)) m
  sedge_run_exactly = Runs.exactly b schedule answers

  -- "Refusals 1 to 4 .. change nothing": every byte of the state and of the answers stays, the counts are 0, and the whole schedule is unread.
  pub record RunRefused : Type 0 where
    pub state_stays : run_saved b schedule answers ≡ b
    pub answers_stay : run_answers b schedule answers ≡ answers
    pub none_executed : (run_report b schedule answers).executed ≡ 0
    pub none_waited : (run_report b schedule answers).waited ≡ 0
    pub whole_unread : run_unread b schedule answers ≡ 0

  -- Any other number means that nothing refused the run: it is given exactly when no condition applies.
  pub sedge_run_none_exactly : (¬ Between bad_state (run_number b schedule answers) too_short) ↔ NoneApply (run_conditions b schedule (length answers))
  sedge_run_none_exactly = Runs.none_exactly b schedule answers

  module _ (off : ¬ Between bad_state (run_number b schedule answers) too_short) where
    -- It is 0 or 5 to 11.
    pub sedge_run_stops : (run_number b schedule answers ≡ done) ⊎ Between no_such_thread (run_number b schedule answers) no_place_left
    sedge_run_stops = run_stops (held_in b) schedule answers (Runs.accepted b schedule answers off)

    -- If nothing stopped it, no part of the schedule is unread ..
    pub sedge_run_ended : run_number b schedule answers ≡ done → run_unread b schedule answers ≡ length schedule
    sedge_run_ended = Runs.none_unread b schedule answers

    -- .. and if a number stopped it, what follows that place are the bytes of the events that were not answered.
    pub sedge_run_rest : Bytes schedule → run_number b schedule answers ≢ done
        → drop (run_unread b schedule answers) schedule ≡ laid event_record (drop (length (answers_of (held_in b) schedule)) (events_of schedule))
    sedge_run_rest = unread_rest (held_in b) schedule answers (Runs.accepted b schedule answers off)

-- Two results that both meet the promise are equal: the number, the three numbers that are stored, the bytes of the state and those of the answers.
pub sedge_run_one_result : (b schedule answers : List ℕ) (r r' x x' w w' u u' : ℕ) (after after' told told' : List ℕ)
    → RunGives b schedule answers r x w u after told → RunGives b schedule answers r' x' w' u' after' told'
    → (r ≡ r') × (x ≡ x') × (w ≡ w') × (u ≡ u') × (after ≡ after') × (told ≡ told')
sedge_run_one_result b schedule answers r r' x x' w w' u u' after after' told told' p q = (
  only p.number q.number,
  only p.executed q.executed,
  only p.waited q.waited,
  only p.unread q.unread,
  only p.saved q.saved,
  only p.answered q.answered,
)

-- ---- sedge_status, sedge_waiting, sedge_in_use

-- Of each the number is 1 exactly if the bytes are no saved state, and else 0; then the value is what document 01 says of the state that they hold ..
module _ (b : List ℕ) where
  pub sedge_status_exactly : (m : ℕ) → ((ask_status b).number ≡ m) ↔ First (saved_conditions b) m
  sedge_status_exactly = Question.exactly Question.status_judges b

  pub sedge_status_value : SavedFile b → StatusIs (held_in b) (ask_status b).value
  sedge_status_value f = (status_exactly (held_in b) (saved_valid b f)).1

  pub sedge_waiting_exactly : (m : ℕ) → ((ask_waiting b).number ≡ m) ↔ First (saved_conditions b) m
  sedge_waiting_exactly = Question.exactly Question.waiting_judges b

  pub sedge_waiting_value : SavedFile b → (ask_waiting b).value ≡ how_many_threads at16or19 (held_in b)
  sedge_waiting_value f = ap (λ (a : Asked). a.value) (waiting_lines (held_in b) (saved_valid b f))

  pub sedge_in_use_exactly : (m : ℕ) → ((ask_in_use b).number ≡ m) ↔ First (saved_conditions b) m
  sedge_in_use_exactly = Question.exactly Question.in_use_judges b

  pub sedge_in_use_value : SavedFile b → let sh = (held_in b).shared in (ask_in_use b).value ≡ how_many_to sh.nodes sh.used
  sedge_in_use_value f = ap (λ (a : Asked). a.value) (in_use_nodes (held_in b) (saved_valid b f))

  -- .. and a refused question gives value 0.
  pub sedge_status_refused : (ask_status b).number ≢ done → ask_status b ≡ refused bad_state
  sedge_status_refused = Question.of_refused Question.status_judges b

  pub sedge_waiting_refused : (ask_waiting b).number ≢ done → ask_waiting b ≡ refused bad_state
  sedge_waiting_refused = Question.of_refused Question.waiting_judges b

  pub sedge_in_use_refused : (ask_in_use b).number ≢ done → ask_in_use b ≡ refused bad_state
  sedge_in_use_refused = Question.of_refused Question.in_use_judges b

-- Two results that both meet the promise are equal, of each of the three: the number, and the value that is stored.
module _ (b : List ℕ) (r r' x x' : ℕ) where
  pub sedge_status_one_result : (r ≡ (ask_status b).number) × (x ≡ (ask_status b).value) → (r' ≡ (ask_status b).number) × (x' ≡ (ask_status b).value)
      → (r ≡ r') × (x ≡ x')
  sedge_status_one_result = Question.only_one (ask_status b)

  pub sedge_waiting_one_result : (r ≡ (ask_waiting b).number) × (x ≡ (ask_waiting b).value) → (r' ≡ (ask_waiting b).number) × (x' ≡ (ask_waiting b).value)
      → (r ≡ r') × (x ≡ x')
  sedge_waiting_one_result = Question.only_one (ask_waiting b)

  pub sedge_in_use_one_result : (r ≡ (ask_in_use b).number) × (x ≡ (ask_in_use b).value) → (r' ≡ (ask_in_use b).number) × (x' ≡ (ask_in_use b).value)
      → (r ≡ r') × (x ≡ x')
  sedge_in_use_one_result = Question.only_one (ask_in_use b)

-- ---- sedge_chain
module _ (b : List ℕ) (from : ℕ) (out : List ℕ) where
  -- The number is that of the first condition of document 01 that applies: 1, the bytes are no saved state; 4, the output has not K bytes; 6, the chain
  -- starts at a node not 1 to K.
  pub sedge_chain_exactly : (m : ℕ) → ((ask_chain b from out).number ≡ m) ↔ First (ask_chain_conditions b from (length out)) m
  sedge_chain_exactly m =
      let by_state = chain_exactly (held_in b) (node from) out (held_sized b) m in
      let by_bytes = first_same (held_valid b) bad_state (drop 1 (ask_chain_conditions b from (length out))) m in
      ((λ h. by_bytes.0 (by_state.0 h)), λ f. by_state.1 (by_bytes.1 f))

  -- Refused, the length is 0 and every byte of the output stays.
  pub sedge_chain_refused : (ask_chain b from out).number ≢ done
      → (ask_chain b from out ≡ refused (ask_chain b from out).number) × (ask_chain_bytes b from out ≡ out)
  sedge_chain_refused = chain_refused (held_in b) (node from) out

  -- Accepted, the output begins with the chain, whose length is given; the bytes after it stay.
  pub sedge_chain_answer : (list : List ℕ) → (ask_chain b from out).number ≡ done → ChainOf (held_in b) (node from) list
      → (ask_chain b from out ≡ answered (length list)) × (ask_chain_bytes b from out ≡ list ++ drop (length list) out)
  sedge_chain_answer = chain_answer (held_in b) (node from) out

  -- Two results that both meet the promise are equal: the number, the length that is stored, and the bytes of the output.
  pub sedge_chain_one_result : (r r' x x' : ℕ) (after after' : List ℕ)
      → let asked = ask_chain b from out in let list = ask_chain_bytes b from out in
      (r ≡ asked.number) × (x ≡ asked.value) × (after ≡ list) → (r' ≡ asked.number) × (x' ≡ asked.value) × (after' ≡ list)
      → (r ≡ r') × (x ≡ x') × (after ≡ after')
  sedge_chain_one_result r r' x x' after after' p q = (only p.0 q.0, only p.1 q.1, only p.2 q.2)
