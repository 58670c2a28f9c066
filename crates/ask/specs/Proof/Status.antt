-- The status: its two tests say what document 01 says of tail, flag and the threads; by cases of these it is what document 01 says. Rests on Count.
-- Assumes nothing.
use Rattle.std.specs.Prelude.{Bool, cond, false, true, ◌≢◌, ◌↔◌, ◌≡◌, refl, leb}
use Rattle.std.proofs.Common.{true≢false, sym, ◌∙◌, arith, eq-eqb, eqb-true, le-leb, leb-true, ne_eqb}
use Rattle.std.proofs.lemmas.Bool.{eqb-false, not-true}
use Rattle.lock.specs.Judged.{rule_valid}
use Rattle.lock.specs.State.{thread_at}
use Rattle.lock.specs.Valid.{Between, Valid}
use Rattle.lock.specs.declared.State.{State}
use Rattle.lock.specs.declared.Thread.{Thread}
use Rattle.number.specs.Numbers.{is_bottom}
use Rattle.number.specs.Refused.{done}
use Rattle.number.specs.Tests.{both_hold, first_holds, second_holds}
use Rattle.ask.specs.Ask.{free, held, how_many_threads, is_free, is_held, is_holding, passing, status, status_of}
use Rattle.ask.specs.Meaning.{Free, Held, StatusIs}
use Rattle.ask.specs.Proof.Count.{none_passes, some_passes}

-- the test of a thread says that it is at 20 to 29
holding : (v : Thread) → is_holding v ≡ true → Between 20 v.line 29
holding v h = record { from = leb-true _ _ (first_holds _ _ h); to = leb-true _ _ (second_holds (leb 20 v.line) _ h) }

is_holding_lem : (v : Thread) → Between 20 v.line 29 → is_holding v ≡ true
is_holding_lem v b = both_hold (le-leb _ _ b.from) (le-leb _ _ b.to)

module _ (s : State) where
  -- its first test says that tail is 0 and flag is 1
  free_exactly : (is_free s ≡ true) ↔ Free s
  free_exactly =
      let no_tail = is_bottom s.shared.tail in (
        (λ e. (eqb-true _ _ (first_holds no_tail _ e), eqb-true _ _ (second_holds no_tail _ e))),
        λ f. both_hold (eq-eqb _ _ f.0) (eq-eqb _ _ f.1),
      )

  -- and its second that some thread is at 20 to 29
  held_exactly : (is_held s ≡ true) ↔ Held s
  held_exactly =
      let T = s.shared.threads in (
        (λ e. let (t, b, h) = some_passes T is_holding s (eqb-false _ _ (not-true _ e)) in (t, b, holding (thread_at s t) h)),
        λ f.
            let passes = is_holding_lem (thread_at s f.0) f.2 in
            let counted : how_many_threads is_holding s ≢ 0 = λ z. true≢false (sym passes ∙ none_passes T is_holding s z f.0 f.1) in
            rw (ne_eqb _ _ counted),
      )

  -- by the two tests
  by_tests_lem : (f h : Bool) → (f ≡ true) ↔ Free s → (h ≡ true) ↔ Held s → StatusIs s (cond f free (cond h held passing))
  by_tests_lem true h f-is h-is = record {
    is_free_lem = ((λ e. f-is.0 refl), λ x. refl);
    is_held_lem = ((λ e. absurd (omega arith)), λ x. absurd (x.0 (f-is.0 refl)));
    is_passing = ((λ e. absurd (omega arith)), λ x. absurd (x.0 (f-is.0 refl)));
  }
  by_tests_lem false true f-is h-is = record {
    is_free_lem = ((λ e. absurd (omega arith)), λ x. absurd (true≢false (sym (f-is.1 x))));
    is_held_lem = ((λ e. ((λ x. true≢false (sym (f-is.1 x))), h-is.0 refl)), λ x. refl);
    is_passing = ((λ e. absurd (omega arith)), λ x. absurd (x.1 (h-is.0 refl)));
  }
  by_tests_lem false false f-is h-is = record {
    is_free_lem = ((λ e. absurd (omega arith)), λ x. absurd (true≢false (sym (f-is.1 x))));
    is_held_lem = ((λ e. absurd (omega arith)), λ x. absurd (true≢false (sym (h-is.1 x.1))));
    is_passing = ((λ e. ((λ x. true≢false (sym (f-is.1 x))), λ x. true≢false (sym (h-is.1 x)))), λ x. refl);
  }

  status_is : StatusIs s (status_of s)
  unfolding status_of
  status_is = by_tests_lem (is_free s) (is_held s) free_exactly held_exactly

-- In a valid state the question has that value.
pub status_exactly : (s : State) → Valid s → ((status s).number ≡ done) × StatusIs s (status s).value
unfolding status
status_exactly s rule = rw (rule_valid s rule) (refl, status_is s)
