-- The refusals of a run: each of its four tests says what its condition says, and no test holds exactly where the run is accepted. Assumes nothing.
use Rattle.std.specs.Prelude.{false, not, true, List, ◌∷◌, ◌++◌, ◌≢◌, ◌⊎◌, ◌↔◌, ◌≡◌, refl, ℕ, ◌+◌, ◌*◌, ◌≤◌, eqb, length}
use Rattle.std.proofs.Common.{true≢false, inl, inr, ⊎_elim, ap, sym, ◌∙◌, arith}
use Rattle.std.proofs.Math.Logic.{by_cases}
use Rattle.std.proofs.Math.Decide.{ℕ_discrete}
use borrow.Author.Tests.{eq-eqb, eqb-true, le-ltb, ltb-false, not-false}
use Rattle.events.specs.declared.Event.{Event}
use Rattle.lock.specs.Fresh.{in_size}
use Rattle.lock.specs.Judged.{judges_state, rule_size, rule_valid, valid_rule}
use Rattle.lock.specs.Valid.{Sized, Valid, valid}
use Rattle.lock.specs.declared.State.{State}
use Rattle.number.specs.FirstThat.{AllReflect, Reflects, Rising, done_exactly, first_at_most, judges_rule, judges_short, none_holds, number_exactly}
use Rattle.number.specs.FirstThat.{this_exactly}
use Rattle.number.specs.Refused.{◌if◌, bad_schedule, bad_size, done, too_short}
use Rattle.number.specs.Tests.{neither_holds}
use Rattle.schedule.specs.Schedule.{GoodSchedule, events_in, good, heading_of, most_bytes, schedule_of, width}
use Rattle.schedule.specs.Theorems.{good_schedule, heading_written, many_written, written_good}
use Rattle.schedule.specs.declared.Heading.{Heading}
use Rattle.run.specs.Conditions.{Accepted, Condition, First, NoneApply, ◌given-when◌, conditions}
use Rattle.run.specs.Run.{differ, refusal, refusals}

-- ---- a test and its condition

judges_schedule : (b : List ℕ) → Reflects (bad_schedule if not (good b)) (bad_schedule given-when (¬ GoodSchedule b))
judges_schedule b = judges_rule bad_schedule (good_schedule b)

module _ (s : State) (b : List ℕ) where
  abbrev T : ℕ
  T = s.shared.threads

  abbrev K : ℕ
  K = s.shared.nodes

  -- the test of 3 fails where T and K are the schedule's, and only there
  same_size : differ T K (heading_of b) ≡ false → (T ≡ (heading_of b).threads) × (K ≡ (heading_of b).nodes)
  same_size h =
      let neither = neither_holds (not (eqb T (heading_of b).threads)) _ h in
      (eqb-true _ _ (not-false _ neither.0), eqb-true _ _ (not-false _ neither.1))

  size_same : T ≡ (heading_of b).threads → K ≡ (heading_of b).nodes → differ T K (heading_of b) ≡ false
  size_same t k = rw (eq-eqb T (heading_of b).threads t, eq-eqb K (heading_of b).nodes k)

  judges_size : Reflects (bad_size if differ T K (heading_of b)) (bad_size given-when ((T ≢ (heading_of b).threads) ⊎ (K ≢ (heading_of b).nodes)))
  judges_size = record {
    holds = λ e. (by_cases (ℕ_discrete T (heading_of b).threads) (λ t. inr (λ k. true≢false (sym e ∙ size_same t k))) inl, refl);
    fails = λ e. let same = same_size e in ⊎_elim (λ off. off same.0) (λ off. off same.1);
  }

-- ---- the refusal of a run
module _ (s : State) (b : List ℕ) (room : ℕ) where
  pub refusal_at_most : refusal s b room ≤ too_short
  unfolding refusal
  refusal_at_most = first_at_most too_short (refusals s b room) (omega arith)

  -- what the tests say of a run that none of them refuses
  pub record Passed : Type 0 where
    pub state : valid s ≡ true
    pub schedule : good b ≡ true
    pub size : differ s.shared.threads s.shared.nodes (heading_of b) ≡ false
    pub answers : events_in b ≤ room

  pub passed : refusal s b room ≡ done → Passed
  unfolding refusal
  passed h =
      let off = none_holds (refusals s b room) (omega arith) h in
      record {
        state = not-false _ off.0;
        schedule = not-false _ off.1.0;
        size = off.1.1.0;
        answers = ltb-false _ _ off.1.1.1.0;
      }

  pub accepted : Sized s → refusal s b room ≡ done → Accepted s b room
  accepted sized h =
      let p = passed h in
      let same = same_size s b p.size in
      record {
        state = valid_rule s sized p.state;
        schedule = (good_schedule b).0 p.schedule;
        threads = same.0;
        nodes = same.1;
        answers = p.answers;
      }

  pub not_refused : Accepted s b room → refusal s b room ≡ done
  unfolding refusal
  not_refused a =
      rw (
        rule_valid s a.state,
        (good_schedule b).1 a.schedule,
        size_same s b a.threads a.nodes,
        le-ltb room (events_in b) a.answers,
      )

  module _ (sized : Sized s) where
    judges : AllReflect (refusals s b room) (conditions s b room)
    judges = (judges_state s sized, λ j1. (judges_schedule b, λ j2. (judges_size s b, λ j3. (judges_short room (events_in b), λ j4. tt))))

    -- the numbers rise, so each tells its own condition
    rising : Rising done (conditions s b room)
    rising = omega arith

    pub refused_exactly : (m : ℕ) → (refusal s b room ≡ m) ↔ First (conditions s b room) m
    unfolding refusal
    refused_exactly m = number_exactly (refusals s b room) (conditions s b room) judges m

    pub none_exactly : (refusal s b room ≡ done) ↔ NoneApply (conditions s b room)
    unfolding refusal
    none_exactly = done_exactly (refusals s b room) (conditions s b room) judges rising

    pub given_exactly : (before : List Condition) (c : Condition) (later : List Condition) → conditions s b room ≡ before ++ c ∷ later
        → (refusal s b room ≡ c.number) ↔ (NoneApply before × c.applies)
    unfolding refusal
    given_exactly before c later split = this_exactly (refusals s b room) (conditions s b room) judges rising before c later split

-- ---- a schedule that was written, and a state with its T and K
module _ (T K : ℕ) (es : List Event) (s : State) (room : ℕ) (rule : Valid s) (threads : s.shared.threads ≡ T) (nodes : s.shared.nodes ≡ K) where
  size : in_size T K ≡ true
  size = rw (threads, nodes) at (rule_size s.shared.threads s.shared.nodes rule.shared.threads rule.shared.nodes)

  pub accepted_written : width + width * length es ≤ most_bytes → length es ≤ room → Accepted s (schedule_of T K es) room
  accepted_written short enough = record {
    state = rule;
    schedule = (good_schedule (schedule_of T K es)).0 (written_good T K es size short);
    threads = threads ∙ sym (ap (λ (h : Heading). h.threads) (heading_written T K es));
    nodes = nodes ∙ sym (ap (λ (h : Heading). h.nodes) (heading_written T K es));
    answers = rw (many_written T K es) enough;
  }
