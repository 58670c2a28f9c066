-- The test of a schedule and the rule agree: `passed_rule` leads from the test to the rule, and `rule_passed` back. Each of the tests stands for one
-- fact of the rule; the events are judged one at a time (crate `rows`, Places). Assumes nothing.
use Rattle.std.proofs.Math.Bool.{and-true}
use Rattle.std.specs.Prelude.{true, List, ◌≡◌, refl, ℕ, ◌*◌, ◌%◌, ◌≤◌, ◌<◌, drop, length}
use Rattle.std.proofs.Common.{arith, eq-eqb, eqb-true, le-leb, leb-true}
use Rattle.lock.specs.Judged.{rule_size, size_rule}
use Rattle.lock.specs.Valid.{Between}
use Rattle.number.specs.Sizes.{most_nodes, most_threads}
use Rattle.number.specs.Tests.{all_hold_lem, both_hold, each_holds, first_holds, second_holds}
use Rattle.rows.specs.Places.{all_good_lem, each_marked, mark_rule, rule_mark}
use Rattle.rows.specs.Rows.{MarkAt, good as good_record, letter_e, letter_h, letter_s, marked}
use Rattle.schedule.specs.Proof.Events.{at_start}
use Rattle.schedule.specs.Schedule.{GoodSchedule, event_record, events_good, events_in, good, heading_good, heading_of}
use Rattle.schedule.specs.Schedule.{most_bytes, start_of, tests, width}

-- ---- the heading

heading_rule : (b : List ℕ) → heading_good b ≡ true
    → MarkAt b 0 letter_s letter_h × (Between 1 (heading_of b).threads most_threads × Between 1 (heading_of b).nodes most_nodes)
heading_rule b h = (mark_rule b 0 letter_s letter_h (first_holds _ _ h), size_rule _ _ (second_holds (marked letter_s letter_h b) _ h))

-- ---- the events

-- Event i is judged by the mark at its start.
pub event_judged : (b : List ℕ) (i : ℕ) → good_record event_record (drop (width * i) (drop width b)) ≡ marked letter_s letter_e (drop (start_of i) b)
event_judged b i = rw (at_start b i, and-true (marked letter_s letter_e (drop (start_of i) b)))

events_rule : (b : List ℕ) → events_good b ≡ true → (i : ℕ) → i < events_in b → MarkAt b (start_of i) letter_s letter_e
unfolding events_good
events_rule b h i l = mark_rule b (start_of i) letter_s letter_e (each_marked event_record width (events_in b) b h i l)

rule_events : (b : List ℕ) → ((i : ℕ) → i < events_in b → MarkAt b (start_of i) letter_s letter_e) → events_good b ≡ true
unfolding events_good
rule_events b h = all_good_lem event_record width (events_in b) b (λ i l. rule_mark b (start_of i) letter_s letter_e (h i l)) (λ i l. refl)

-- ---- all of it

-- A heading and n whole events have room for n events.
pub events_are : (b : List ℕ) (n : ℕ) → length b ≡ start_of n → events_in b ≡ n
events_are b n h = omega arith

-- what the test says of the length, of the heading and of the events
pub record Passed (b : List ℕ) : Type 0 where
  pub whole : length b ≡ start_of (events_in b)
  pub short : length b ≤ most_bytes
  pub head : heading_good b ≡ true
  pub events : events_good b ≡ true

pub passed : (b : List ℕ) → good b ≡ true → Passed b
unfolding good
passed b h =
    let (short, (least, (torn, (head, (events, _))))) = each_holds (tests b) h in
    record {
      whole = omega (arith, leb-true width (length b) least, eqb-true (length b % width) 0 torn);
      short = leb-true _ _ short;
      head = head;
      events = events;
    }

pub passes : (b : List ℕ) → Passed b → good b ≡ true
unfolding good
passes b p =
    let least : width ≤ length b = omega arith in
    let torn : length b % width ≡ 0 = omega arith in
    all_hold_lem (tests b) (le-leb _ _ p.short, (le-leb _ _ least, (eq-eqb _ _ torn, (p.head, (p.events, tt)))))

pub few_events : (b : List ℕ) → good b ≡ true → events_in b ≤ 16_383
few_events b h = let p = passed b h in omega (arith, p.whole, p.short)

pub passed_rule : (b : List ℕ) → good b ≡ true → GoodSchedule b
passed_rule b h =
    let p = passed b h in
    let r = heading_rule b p.head in
    record {
      many = events_in b;
      long = p.whole;
      short = p.short;
      head = r.0;
      threads = r.1.0;
      nodes = r.1.1;
      events = events_rule b p.events;
    }

pub rule_passed : (b : List ℕ) → GoodSchedule b → good b ≡ true
rule_passed b r =
    let n : events_in b ≡ r.many = events_are b r.many r.long in
    passes b
    (record {
      whole = omega arith;
      short = r.short;
      head = both_hold (rule_mark b 0 letter_s letter_h r.head) (rule_size _ _ r.threads r.nodes);
      events = rule_events b (λ i l. r.events i (omega arith));
    })
