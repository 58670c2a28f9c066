-- What is written as a schedule is a good one and reads as it was, and what a good one says is written as it was. Both follow from the round trip of
-- its records (crate `rows`, Round), the heading's and the events'. Assumes nothing.
use Rattle.std.specs.Prelude.{true, ◌↔◌, ◌≡◌, ℕ, ◌+◌, ◌*◌, ◌≤◌, drop, take}
use mathlib.Core.List.{List, [], ◌∷◌, ◌++◌, append-nil}
use Rattle.std.proofs.Math.Path.{ap, refl}
use Rattle.std.proofs.Common.{sym, ◌∙◌, arith, length-drop, take-append-drop}
use Rattle.std.proofs.Math.ListN.{length, length-append}
use Rattle.std.proofs.Math.Seq.{take_all}
use Rattle.events.specs.declared.Event.{Event}
use Rattle.lock.specs.Fresh.{in_size}
use Rattle.number.specs.Tests.{first_holds, second_holds}
use Rattle.rows.specs.Loops.{length_laid}
use Rattle.rows.specs.Places.{laid_past}
use Rattle.rows.specs.Round.{bytes_past, good_laid, good_written, laid_values, values_laid}
use Rattle.rows.specs.Rows.{Bytes, all_in, laid, letter_h, letter_s, marked}
use Rattle.schedule.specs.Proof.Events.{at_start, length_events}
use Rattle.schedule.specs.Proof.Judged.{passed, passes, events_are}
use Rattle.schedule.specs.Proof.Records.{event_lawful, heading_lawful}
use Rattle.schedule.specs.Schedule.{Written, event_record, events_good, events_in, events_of, good, heading, heading_good, heading_of}
use Rattle.schedule.specs.Schedule.{most_bytes, schedule_of, sizes, start_of, width}

-- "Thread and node bytes of an event may hold any value": every event is in range.
any_value : (es : List Event) → all_in event_record.in_range es ≡ true
any_value [] = refl
any_value (e ∷ es) = any_value es

-- ---- what was written
module _ (T K : ℕ) (es : List Event) where
  pub length_written : length (schedule_of T K es) ≡ start_of (length es)
  unfolding schedule_of
  length_written =
      length-append (heading.bytes (sizes T K)) (laid event_record es)
      ∙ ap (λ (n : ℕ). width + n) (length_laid event_record event_lawful es)

  pub many_written : events_in (schedule_of T K es) ≡ length es
  many_written = events_are (schedule_of T K es) (length es) length_written

  pub heading_written : heading_of (schedule_of T K es) ≡ sizes T K
  unfolding schedule_of
  heading_written = refl

  pub events_written : events_of (schedule_of T K es) ≡ es
  unfolding events_of schedule_of
  events_written = rw many_written (rw append-nil at (values_laid event_record event_lawful es [] (any_value es)))

  heading_good_lem : in_size T K ≡ true → heading_good (schedule_of T K es) ≡ true
  unfolding schedule_of
  heading_good_lem h = good_written heading heading_lawful (sizes T K) (laid event_record es) h

  events_good_lem : events_good (schedule_of T K es) ≡ true
  unfolding events_good schedule_of
  events_good_lem = rw many_written (rw append-nil at (good_laid event_record event_lawful es [] (any_value es)))

  pub written_good : in_size T K ≡ true → start_of (length es) ≤ most_bytes → good (schedule_of T K es) ≡ true
  written_good h l =
      passes (schedule_of T K es)
      (record {
        whole = length_written ∙ ap start_of (sym many_written);
        short = rw length_written l;
        head = heading_good_lem h;
        events = events_good_lem;
      })

pub none_good : (T K : ℕ) → in_size T K ≡ true → (good (heading.bytes (sizes T K)) ≡ true) × (events_of (heading.bytes (sizes T K)) ≡ [])
unfolding laid schedule_of
none_good T K h = (written_good T K [] h (omega arith), events_written T K [])

-- ---- what is read

module _ (b : List ℕ) (bytes : Bytes b) (h : good b ≡ true) where
  heading_again : heading.bytes (heading_of b) ≡ take width b
  heading_again =
      let p = passed b h in
      heading_lawful.writes b bytes (omega (arith, p.whole)) (first_holds _ _ p.head)

  events_again : laid event_record (events_of b) ≡ drop width b
  unfolding events_good events_of
  events_again =
      let p = passed b h in
      let rest : length (drop width b) ≡ width * events_in b = rw (length-drop width b) (omega (arith, p.whole)) in
      laid_values event_record event_lawful (events_in b) (drop width b) (bytes_past width b bytes) (omega arith) p.events
      ∙ take_all (width * events_in b) (drop width b) (omega arith)

  pub schedule_again : schedule_of (heading_of b).threads (heading_of b).nodes (events_of b) ≡ b
  unfolding schedule_of
  schedule_again =
      ap (λ (l : List ℕ). l ++ laid event_record (events_of b)) heading_again ∙ rw events_again (take-append-drop width b)

  pub rest_of_events : (i : ℕ) → i ≤ events_in b → drop (start_of i) b ≡ laid event_record (drop i (events_of b))
  rest_of_events i l =
      sym (at_start b i)
      ∙ ap (λ (r : List ℕ). drop (width * i) r) (sym events_again)
      ∙ laid_past event_record event_lawful i (events_of b) (rw length_events l)

  written : Written b
  written =
      let p = passed b h in
      record {
        threads = (heading_of b).threads;
        nodes = (heading_of b).nodes;
        events = events_of b;
        size = second_holds (marked letter_s letter_h b) _ p.head;
        short = rw length_events (omega (arith, p.whole, p.short));
        same = sym schedule_again;
      }

pub schedule_exactly : (b : List ℕ) → Bytes b → (good b ≡ true) ↔ Written b
schedule_exactly b bytes = (written b bytes, λ w. rw w.same (written_good w.threads w.nodes w.events w.size w.short))
