-- A run in two parts: the events es, and then the later ones, from the state that the first part ends in. Both schedules are good and nothing refuses
-- the two runs; the rest is what `events` says of a row in two parts. Rests on Refused and Runs. Assumes nothing.
use mathlib.Core.List.{List, ◌++◌, append_assoc}
use Rattle.std.specs.Prelude.{◌≢◌, ◌≡◌, refl, ℕ, ◌+◌, ◌*◌, ◌≤◌, drop, length, take}
use Rattle.std.proofs.Math.Path.{ap, sym}
use Rattle.std.proofs.Common.{◌∙◌, arith, length-append, length-drop, drop_at, drop-drop, take_at}
use Rattle.events.specs.Row.{row_answers, row_end, stopping}
use Rattle.events.specs.Theorems.{executed_append, row_length_all, row_split, row_stopped, stopping_append, waited_append}
use Rattle.events.specs.declared.Event.{Event}
use Rattle.lock.specs.declared.State.{State}
use Rattle.number.specs.Refused.{done}
use Rattle.rows.specs.Rows.{over}
use Rattle.schedule.specs.Schedule.{events_of, most_bytes, schedule_of, width}
use Rattle.schedule.specs.Theorems.{events_written, heading_written, length_written, many_written}
use Rattle.schedule.specs.declared.Heading.{Heading}
use Rattle.machine.specs.Step.{advance}
use Rattle.run.specs.Conditions.{Accepted}
use Rattle.run.specs.Proof.Refused.{accepted_written}
use Rattle.run.specs.Proof.Runs.{gives, report_of_lem, run_size, run_valid, state_of, stop_of, stores}
use Rattle.run.specs.Run.{answers_of, ran, ran_over, report_of, reported, run, run_bytes}

module _ (T K : ℕ) (es later : List Event) (s : State) (out : List ℕ) (whole : Accepted s (schedule_of T K (es ++ later)) (length out)) where
  abbrev b : List ℕ
  b = schedule_of T K (es ++ later)

  abbrev b₁ : List ℕ
  b₁ = schedule_of T K es

  abbrev b₂ : List ℕ
  b₂ = schedule_of T K later

  threads_are : s.shared.threads ≡ T
  threads_are = whole.threads ∙ ap (λ (h : Heading). h.threads) (heading_written T K (es ++ later))

  nodes_are : s.shared.nodes ≡ K
  nodes_are = whole.nodes ∙ ap (λ (h : Heading). h.nodes) (heading_written T K (es ++ later))

  -- neither part is too long, and the buffer of the whole has room for both
  short : (width + width * length es ≤ most_bytes) × (width + width * length later ≤ most_bytes)
  short = omega (arith, whole.schedule.short, length_written T K (es ++ later), length-append es later)

  room : length es + length later ≤ length out
  room = omega (arith, whole.answers, many_written T K (es ++ later), length-append es later)

  pub first_accepted : (out₁ : List ℕ) → length es ≤ length out₁ → Accepted s b₁ (length out₁)
  first_accepted out₁ room₁ = accepted_written T K es s (length out₁) whole.state threads_are nodes_are short.0 room₁

  -- ---- the first stops: no later event is taken
  module _ (off : (run s b₁ out).report.stop ≢ done) where
    first : Accepted s b₁ (length out)
    first = first_accepted out (omega (arith, room))

    same : (answers_of s b ≡ answers_of s b₁) × (row_end advance s (events_of b) ≡ row_end advance s (events_of b₁))
    same =
        rw (events_written T K (es ++ later), events_written T K es)
        (row_stopped advance s es later (rw (stop_of s b₁ out first, events_written T K es) at off))

    pub cut : (run s b out ≡ run s b₁ out) × (run_bytes s b out ≡ run_bytes s b₁ out)
    unfolding ran_over
    cut =
        rw (gives s b out whole, gives s b₁ out first, stores s b out whole, stores s b₁ out first)
        (λ i. ran (report_of (same.0 i)) (same.1 i), ap (λ (l : List ℕ). over l out) same.0)

  -- ---- with a buffer for the first
  module _ (out₁ : List ℕ) (room₁ : length es ≤ length out₁) where
    abbrev a₁ : Accepted s b₁ (length out₁)
    a₁ = first_accepted out₁ room₁

    abbrev s₁ : State
    s₁ = (run s b₁ out₁).state

    pub second_accepted : (out₂ : List ℕ) → length later ≤ length out₂ → Accepted s₁ b₂ (length out₂)
    second_accepted out₂ room₂ =
        let size = run_size s b₁ out₁ a₁ in
        accepted_written T K later s₁ (length out₂) (run_valid s b₁ out₁ a₁) (size.threads ∙ threads_are) (size.nodes ∙ nodes_are) short.1 room₂

    -- ---- the first does not stop
    module _ (on : (run s b₁ out₁).report.stop ≡ done) where
      on_row : stopping (row_answers advance s es) ≡ done
      on_row = rw (events_written T K es) at (sym (stop_of s b₁ out₁ a₁) ∙ on)

      ends : s₁ ≡ row_end advance s es
      ends = state_of s b₁ out₁ a₁ ∙ ap (row_end advance s) (events_written T K es)

      answers_are : answers_of s b ≡ answers_of s b₁ ++ answers_of s₁ b₂
      answers_are =
          rw (events_written T K (es ++ later), events_written T K es, events_written T K later, ends) (row_split advance s es later on_row).0

      end_is : row_end advance s (events_of b) ≡ row_end advance s₁ (events_of b₂)
      end_is = rw (events_written T K (es ++ later), events_written T K later, ends) (row_split advance s es later on_row).1

      first_many : length (answers_of s b₁) ≡ length es
      first_many = rw (events_written T K es) (row_length_all advance s es on_row)

      -- ---- in the buffer
      abbrev untouched : List ℕ
      untouched = drop (length (answers_of s b₁ ++ answers_of s₁ b₂)) out

      bytes_are : run_bytes s b out ≡ answers_of s b₁ ++ (answers_of s₁ b₂ ++ untouched)
      bytes_are = stores s b out whole ∙ ap (λ (l : List ℕ). over l out) answers_are ∙ append_assoc (answers_of s b₁) (answers_of s₁ b₂) untouched

      -- the first part's answers stand where the first run stores them,
      pub split_front : take (length es) (run_bytes s b out) ≡ take (length es) (run_bytes s b₁ out₁)
      split_front =
          rw (bytes_are, stores s b₁ out₁ a₁)
          (take_at (answers_of s b₁) _ (length es) first_many ∙ sym (take_at (answers_of s b₁) _ (length es) first_many))

      behind_front : drop (length es) (run_bytes s b out) ≡ answers_of s₁ b₂ ++ untouched
      behind_front = rw bytes_are (drop_at (answers_of s b₁) _ (length es) first_many)

      -- and behind them the second run's, if it is lent the rest of the buffer
      pub split_rest : drop (length es) (run_bytes s b out) ≡ run_bytes s₁ b₂ (drop (length es) out)
      split_rest =
          let long : length (answers_of s b₁ ++ answers_of s₁ b₂) ≡ length es + length (answers_of s₁ b₂) =
          length-append (answers_of s b₁) (answers_of s₁ b₂) ∙ ap (λ (n : ℕ). n + length (answers_of s₁ b₂)) first_many in
          let left : length later ≤ length (drop (length es) out) = rw (length-drop (length es) out) (omega (arith, room)) in
          behind_front
          ∙ rw (stores s₁ b₂ (drop (length es) out) (second_accepted (drop (length es) out) left), long)
          (ap (λ (l : List ℕ). answers_of s₁ b₂ ++ l) (sym (drop-drop (length (answers_of s₁ b₂)) (length es) out)))

      -- ---- with any buffer for the second
      module _ (out₂ : List ℕ) (room₂ : length later ≤ length out₂) where
        counts : let r₁ = (run s b₁ out₁).report in let r₂ = (run s₁ b₂ out₂).report in
            report_of (answers_of s b) ≡ reported (r₁.executed + r₂.executed) (r₁.waited + r₂.waited) r₂.stop
        unfolding report_of
        counts =
            let x₁ = answers_of s b₁ in
            let x₂ = answers_of s₁ b₂ in
            rw (
              report_of_lem s₁ b₂ out₂ (second_accepted out₂ room₂),
              report_of_lem s b₁ out₁ a₁,
              answers_are,
              executed_append x₁ x₂,
              waited_append x₁ x₂,
              stopping_append x₁ x₂ (sym (stop_of s b₁ out₁ a₁) ∙ on),
            )

        -- the counts add up, the stop is the second's, and so is the end
        pub split : let r₁ = (run s b₁ out₁).report in let r₂ = (run s₁ b₂ out₂).report in
            run s b out ≡ ran (reported (r₁.executed + r₂.executed) (r₁.waited + r₂.waited) r₂.stop) (run s₁ b₂ out₂).state
        unfolding ran_over
        split = gives s b out whole ∙ (λ i. ran (counts i) ((end_is ∙ sym (state_of s₁ b₂ out₂ (second_accepted out₂ room₂))) i))

        -- the second part's answers stand where the second run stores them, behind the first part's
        pub split_behind : let m = length (answers_of s₁ b₂) in take m (drop (length es) (run_bytes s b out)) ≡ take m (run_bytes s₁ b₂ out₂)
        split_behind =
            rw (behind_front, stores s₁ b₂ out₂ (second_accepted out₂ room₂))
            (take_at (answers_of s₁ b₂) _ _ refl ∙ sym (take_at (answers_of s₁ b₂) _ _ refl))
