-- A good schedule is run from a valid fresh state of its own T and K, so that nothing refuses its run; and so it is in bytes: those of the fresh state are
-- a saved state, and so are those that the run leaves. Rests on the theorems about runs and about fresh states, and on saved states. Assumes nothing.
use Rattle.std.specs.Prelude.{true, List, [], ◌∷◌, ◌≡◌, ℕ, ◌≤◌, length, take}
use Rattle.std.proofs.Math.Path.{ap}
use Rattle.std.proofs.Common.{◌∙◌, arith, take_at}
use Rattle.ask.specs.Ask.{how_many_threads, is_waiting, status, status_of, waiting}
use Rattle.events.specs.Row.{row_end}
use Rattle.events.specs.Theorems.{row_valid}
use Rattle.lock.specs.Fresh.{fresh_state, in_size}
use Rattle.lock.specs.Judged.{rule_size, rule_valid}
use Rattle.lock.specs.Theorems.{fresh_accepted, fresh_valid}
use Rattle.lock.specs.Valid.{Valid}
use Rattle.lock.specs.Fresh.{Opened}
use Rattle.lock.specs.declared.State.{State}
use Rattle.machine.specs.Step.{advance}
use Rattle.rows.specs.Rows.{over}
use Rattle.run.specs.Proof.Runs.{gives}
use Rattle.run.specs.Run.{ran_over, run}
use Rattle.run.specs.declared.Report.{Report}
use Rattle.saved.specs.Proof.Held.{bytes_good}
use Rattle.saved.specs.Saved.{bytes_of, saved_good, size, state_in}
use Rattle.saved.specs.Theorems.{saved_size}
use Rattle.schedule.specs.Schedule.{events_of, good, heading_of}
use Rattle.schedule.specs.Theorems.{few_events, good_schedule}
use Rattle.text.specs.Text.{begin, end_fields}

module _ (b : List ℕ) (h : good b ≡ true) where
  -- Its T and K are in size ..
  pub begin_size : in_size (heading_of b).threads (heading_of b).nodes ≡ true
  begin_size = let rule = (good_schedule b).0 h in rule_size _ _ rule.threads rule.nodes

  -- .. so that a saved state of them fits the longest.
  pub begin_within : size (heading_of b).threads (heading_of b).nodes ≤ 503
  begin_within = let rule = (good_schedule b).0 h in omega (arith, rule.threads, rule.nodes)

  -- The state that it is run from is the fresh state of its T and K ..
  pub begin_fresh : begin b ≡ fresh_state (heading_of b).threads (heading_of b).nodes
  begin_fresh = ap (λ (o : Opened). o.state) (fresh_accepted (heading_of b).threads (heading_of b).nodes begin_size)

  -- .. and so is valid.
  pub begin_valid : Valid (begin b)
  begin_valid = rw begin_fresh (fresh_valid (heading_of b).threads (heading_of b).nodes begin_size)

  -- Its bytes are the first of a buffer that they are written over.
  pub begin_stored : (out : List ℕ) → let T = (heading_of b).threads in
      let K = (heading_of b).nodes in
      take (size T K) (over (bytes_of (fresh_state T K)) out) ≡ bytes_of (begin b)
  begin_stored out = rw begin_fresh (take_at (bytes_of _) _ _ (saved_size _ (rw begin_fresh at begin_valid)).0)

  -- The run from it, with room for any answers, is not refused.
  pub begun_run : (answers : List ℕ) → 16_383 ≤ length answers → run (begin b) b answers ≡ ran_over (begin b) b
  begun_run answers enough =
      gives (begin b) b answers
      record {
        state = begin_valid;
        schedule = (good_schedule b).0 h;
        threads = rw begin_fresh;
        nodes = rw begin_fresh;
        answers = omega (arith, few_events b h);
      }

  -- ---- the run from it in bytes: first its own, and then those that the run leaves
  module _ {b₀ : List ℕ} (first : b₀ ≡ bytes_of (begin b)) where
    pub first_good : (saved_good b₀ ≡ true) × (state_in b₀ ≡ begin b)
    first_good = bytes_good b₀ (begin b) begin_valid first

    module _ {b' : List ℕ} (leaves : b' ≡ bytes_of (ran_over (state_in b₀) b).state) where
      abbrev end : State
      end = row_end advance (begin b) (events_of b)

      pub end_good : (saved_good b' ≡ true) × (state_in b' ≡ end)
      unfolding ran_over
      end_good =
          bytes_good b' end (row_valid (begin b) (events_of b) begin_valid) (leaves ∙ ap (λ (s : State). bytes_of (ran_over s b).state) first_good.1)

      -- What it reports, and what is asked of the state that it ends in, are the fields of the last line.
      pub end_fields_lem : {r : Report} {x y : ℕ} → r ≡ (ran_over (state_in b₀) b).report → x ≡ status_of (state_in b') → y ≡ how_many_threads is_waiting (state_in b')
          → r.executed ∷ r.waited ∷ r.stop ∷ x ∷ y ∷ [] ≡ end_fields (ran_over (begin b) b)
      unfolding ran_over status waiting
      end_fields_lem gives free wait =
          rw (gives, free, wait, end_good.1, first_good.1, rule_valid end (row_valid (begin b) (events_of b) begin_valid))
