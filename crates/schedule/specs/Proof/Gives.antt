-- What stands at a place of a schedule. In a good one the test of a place holds at the events' starts and nowhere else; what is given then goes by
-- three tests: that the schedule is good, that an event starts at the place, and that the place is the end. Assumes nothing.
use Rattle.std.specs.Prelude.{Bool, cond, true, ◌&&◌, List, ◌⊎◌, ◌↔◌, ◌≡◌, refl, ℕ, ◌+◌, ◌-◌, ◌/◌, ◌%◌, ◌≤◌, ◌<◌, leb, length}
use Rattle.std.proofs.Math.Bool.{Bool-discrete, and-false, false}
use Rattle.std.proofs.Common.{Err, None, Ok, Option, Result, Some, true≢false, inl, inr, ⊎_elim, sym, ◌∙◌}
use Rattle.std.proofs.Math.Logic.{by_cases}
use Rattle.std.proofs.Math.Path.{ap}
use native.Mathlib.Omega.{arith}
use Rattle.std.proofs.Math.Dec.{eqb, ltb}
use borrow.Author.Tests.{eq-eqb, eqb-false, eqb-true, le-leb, le-ltb, leb-true, lt-ltb, ltb-true, ne_eqb}
use Rattle.events.specs.declared.Event.{Event}
use Rattle.number.specs.Answer.{one_refusal, refused}
use Rattle.number.specs.OneResult.{only}
use Rattle.number.specs.Refused.{bad_schedule, done}
use Rattle.number.specs.declared.Refusal.{Refusal}
use Rattle.number.specs.Tests.{all_hold_lem, cannot_hold, each_holds}
use Rattle.schedule.specs.Proof.Judged.{passed, passed_rule, rule_passed}
use Rattle.schedule.specs.Schedule.{GoodSchedule, NoPlace, event_at, events_in, given, good, most_bytes, one_event}
use Rattle.schedule.specs.Schedule.{start_of, start_tests, starts_event, stays, width}
use Rattle.schedule.specs.Given.{Given, given_from}

-- ---- the test of a place

-- It holds at an event's start ..
start_test : (b : List ℕ) (i : ℕ) → i < events_in b → starts_event b (start_of i) ≡ true
start_test b i l =
    let behind : width ≤ start_of i = omega arith in
    let whole : start_of i % width ≡ 0 = omega arith in
    let before : start_of i < length b = omega arith in
    all_hold_lem (start_tests b (start_of i)) (le-leb _ _ behind, (eq-eqb _ _ whole, (lt-ltb _ _ before, tt)))

-- .. and, in a good schedule, nowhere else.
test_start : (b : List ℕ) (place : ℕ) → good b ≡ true → starts_event b place ≡ true
    → ((place - width) / width < events_in b) × (place ≡ start_of ((place - width) / width))
test_start b place h t =
    let (behind, (whole, (before, _))) = each_holds (start_tests b place) t in
    omega (arith, leb-true width place behind, eqb-true (place % width) 0 whole, ltb-true place (length b) before, (passed b h).whole)

-- So there are four bytes before an event's start, and four behind it that a schedule has room for.
pub start_within : (b : List ℕ) (place : ℕ) → good b ≡ true → starts_event b place ≡ true → (width ≤ place) × (place + width ≤ most_bytes)
start_within b place h t =
    let p = passed b h in
    omega (arith, test_start b place h t, p.whole, p.short)

-- ---- an event, and the end
module _ (b : List ℕ) (h : good b ≡ true) where
  pub given_event : (i : ℕ) → i < events_in b → given b (start_of i) ≡ one_event (event_at b i) (start_of (i + 1))
  unfolding given
  given_event i l =
      let number : (start_of i - width) / width ≡ i = omega arith in
      let next : start_of i + width ≡ start_of (i + 1) = omega arith in
      rw (h, start_test b i l, number, next)

  pub given_end : given b (length b) ≡ stays done (length b)
  unfolding given
  given_end =
      let past : ltb (length b) (length b) ≡ false = le-ltb (length b) (length b) (omega arith) in
      rw (h, past, and-false (leb width (length b) && eqb (length b % width) 0), eq-eqb (length b) (length b) refl)

-- ---- refusal 2

-- what is given, by the three tests
module _ (e : Event) (next place : ℕ) where
  abbrev by_tests : Bool → Bool → Bool → Given
  by_tests isGood starts ends =
      cond isGood (cond starts (one_event e next) (cond ends (stays done place) (stays bad_schedule place))) (stays bad_schedule place)

  -- 2 is given only where the first test fails, or both of the others ..
  refused_by : (isGood starts ends : Bool) → (by_tests isGood starts ends).number ≡ bad_schedule → (isGood ≡ false) ⊎ ((starts ≡ false) × (ends ≡ false))
  refused_by false starts ends h = inl refl
  refused_by true true ends h = absurd (omega arith)
  refused_by true false true h = absurd (omega arith)
  refused_by true false false h = inr (refl, refl)

  -- .. and then the place stays.
  stays_by : (isGood starts ends : Bool) → (isGood ≡ false) ⊎ ((starts ≡ false) × (ends ≡ false)) → by_tests isGood starts ends ≡ stays bad_schedule place
  stays_by false starts ends w = refl
  stays_by true true ends w = absurd (⊎_elim true≢false (λ r. true≢false r.0) w)
  stays_by true false true w = absurd (⊎_elim true≢false (λ r. true≢false r.1) w)
  stays_by true false false w = refl

  -- No event is given but by the first two tests; without one the place stays.
  none_by : (isGood starts ends : Bool) → (by_tests isGood starts ends).found ≡ false → (by_tests isGood starts ends).place ≡ place
  none_by false starts ends h = refl
  none_by true true ends h = absurd (true≢false h)
  none_by true false true h = refl
  none_by true false false h = refl

module _ (b : List ℕ) (place : ℕ) where
  abbrev TestsFail : Type 0
  TestsFail = (good b ≡ false) ⊎ ((starts_event b place ≡ false) × (eqb place (length b) ≡ false))

  -- The tests fail where the schedule is bad, or the place is none of it, and only there.
  so_refused : TestsFail → (¬ GoodSchedule b) ⊎ NoPlace b place
  so_refused =
      ⊎_elim
      (λ bad. inl (λ r. true≢false (sym (rule_passed b r) ∙ bad)))
      (λ nowhere.
      inr
      (record {
        no_start = λ i l at. true≢false (sym (start_test b i l) ∙ ap (starts_event b) (sym at) ∙ nowhere.0);
        no_end = eqb-false place (length b) nowhere.1;
      }))

  none_starts : good b ≡ true → NoPlace b place → starts_event b place ≡ false
  none_starts h nowhere = cannot_hold (starts_event b place) (λ t. let s = test_start b place h t in nowhere.no_start _ s.0 s.1)

  so_fail : (¬ GoodSchedule b) ⊎ NoPlace b place → TestsFail
  so_fail w =
      by_cases (Bool-discrete (good b) true)
      (λ h. ⊎_elim (λ bad. absurd (bad (passed_rule b h))) (λ nowhere. inr (none_starts h nowhere, ne_eqb place (length b) nowhere.no_end)) w)
      (λ bad. inl (cannot_hold (good b) bad))

  pub given_refused : ((given b place).number ≡ bad_schedule) ↔ ((¬ GoodSchedule b) ⊎ NoPlace b place)
  unfolding given
  given_refused = (
    λ h. so_refused (refused_by _ _ place (good b) (starts_event b place) (eqb place (length b)) h),
    λ w. ap (λ (g : Given). g.number) (stays_by _ _ place (good b) (starts_event b place) (eqb place (length b)) (so_fail w)),
  )

  pub refused_stays : (given b place).number ≡ bad_schedule → given b place ≡ stays bad_schedule place
  unfolding given
  refused_stays h =
      stays_by _ _ place (good b) (starts_event b place) (eqb place (length b))
      (refused_by _ _ place (good b) (starts_event b place) (eqb place (length b)) h)

  pub none_stays : (given b place).found ≡ false → (given b place).place ≡ place
  unfolding given
  none_stays = none_by _ _ place (good b) (starts_event b place) (eqb place (length b))

  -- What would be no place of a good schedule is refused, whatever the schedule.
  no_place_lem : (good b ≡ true → NoPlace b place) → given b place ≡ stays bad_schedule place
  no_place_lem f =
      refused_stays (given_refused.1 (by_cases (Bool-discrete (good b) true) (λ h. inr (f h)) (λ bad. inl (λ r. bad (rule_passed b r)))))

pub heading_is_no_event : (b : List ℕ) → given b 0 ≡ stays bad_schedule 0
heading_is_no_event b = no_place_lem b 0 (λ h. record { no_start = λ i l at. omega arith; no_end = λ at. omega (arith, (passed b h).whole) })

pub past_the_end : (b : List ℕ) (place : ℕ) → length b < place → given b place ≡ stays bad_schedule place
past_the_end b place l = no_place_lem b place (λ h. record { no_start = λ i m at. omega arith; no_end = λ at. omega arith })

-- ---- the code's answer

-- What is given fixes the answer that tells it.
given_from_lem : (place : ℕ) (r r' : Result (Option (Event × ℕ)) Refusal) → given_from place r ≡ given_from place r' → r ≡ r'
given_from_lem place (Ok (Some g)) (Ok (Some g')) e = ap (λ (x : Given). Ok (Some (x.event, x.place))) e
given_from_lem place (Ok (Some g)) (Ok None) e = absurd (true≢false (ap (λ (x : Given). x.found) e))
given_from_lem place (Ok (Some g)) (Err r) e = absurd (true≢false (ap (λ (x : Given). x.found) e))
given_from_lem place (Ok None) (Ok (Some g)) e = absurd (true≢false (sym (ap (λ (x : Given). x.found) e)))
given_from_lem place (Ok None) (Ok None) e = refl
given_from_lem place (Ok None) (Err r) e = absurd (refused r (sym (ap (λ (x : Given). x.number) e)))
given_from_lem place (Err r) (Ok (Some g)) e = absurd (true≢false (sym (ap (λ (x : Given). x.found) e)))
given_from_lem place (Err r) (Ok None) e = absurd (refused r (ap (λ (x : Given). x.number) e))
given_from_lem place (Err r) (Err r') e = ap Err (one_refusal r r' (ap (λ (x : Given). x.number) e))

pub given_one_answer : (b : List ℕ) (place : ℕ) (r r' : Result (Option (Event × ℕ)) Refusal)
    → given_from place r ≡ given b place → given_from place r' ≡ given b place → r ≡ r'
given_one_answer b place r r' h h' = given_from_lem place r r' (only h h')
