-- Document 01, "States to try by hand": "All with T = K = 2. P marks those to prove." P1 to P12 as one list of cases with one proof over it: the step
-- passes them all. Each case stands under document 01's own sentence and compares every number that the sentence names. What it is to pass is in
-- Case.antt. The proof is a computation: the one `unfolding` line names what it computes by. Assumes nothing.
use Rattle.std.specs.Prelude.{true, List, [], ◌∷◌, ◌++◌, ◌≡◌, refl, ℕ, replicate, take}
use Rattle.machine.specs.Acts.{perform}
use Rattle.ask.specs.Ask.{how_many_threads_to, status as status_asked, status_of}
use Rattle.lines.specs.Lines.{line_at}
use Rattle.lock.specs.Fresh.{fresh, fresh_shared, fresh_state, idle, idle_to}
use Rattle.lock.specs.State.{◌⟨entered≔◌⟩, ◌⟨high≔◌⟩, ◌⟨line≔◌⟩, ◌⟨my≔◌⟩, ◌⟨shared≔◌⟩, ◌⟨thread◌≔◌⟩, ◌⟨used≔◌⟩}
use Rattle.lock.specs.Valid.{nodes_valid, shared_valid, threads_valid, valid}
use Rattle.lock.specs.declared.State.{State}
use Rattle.number.specs.Numbers.{node, place, thread}
use Rattle.machine.specs.Refusals.{refusal}
use Rattle.rows.specs.Rows.{laid}
use Rattle.saved.specs.Saved.{bytes_of}
use Rattle.machine.specs.Step.{advance, step}
use Rattle.word.specs.Word.{alone_in, in_use, put_in, take_out}
use Rattle.cases.specs.Case.{Case, ◌is◌, ◌under◌gives◌, by_hand, entered, flag, high, line, locked, low, mess, my, next, nxmy, passes, passes_all}
use Rattle.cases.specs.Case.{bytes, prev, saved_as, slot, status, succ, tail, used}
use Rattle.events.specs.Events.{◌times◌, event}
use Rattle.events.specs.declared.Event.{Event}

-- so many answers 0
abbrev pub zeros : ℕ → List ℕ
zeros many = replicate many 0

-- ---- P1 fresh: 53 bytes, status 1.
-- "Fresh: flag 1, tail 0, low = high = 1, entered 0, no node in use, each thread at line 11, every other number 0."

-- its file, written from "Saved state": `LH`, T, K, flag, tail, mess, low, high, entered, nodes in use; two times `LN`, next, locked; two times
-- `Lt`, line, my, prev, succ, nxmy, slot
abbrev pub fresh_file : List ℕ
fresh_file =
    76 ∷ 72 ∷ 2 ∷ 2 ∷ 1 ∷ 0 ∷ 0 ∷ 1 ∷ 0 ∷ 0 ∷ 0 ∷ 1 ∷ 0 ∷ 0 ∷ 0 ∷ 0 ∷ 0 ∷ 0 ∷ 0 ∷ 0 ∷ 0 ∷ 0 ∷ 0
    ∷ 76 ∷ 78 ∷ 0 ∷ 0
    ∷ 76 ∷ 78 ∷ 0 ∷ 0
    ∷ 76 ∷ 84 ∷ 11 ∷ 0 ∷ 0 ∷ 0 ∷ 0 ∷ 0 ∷ 0 ∷ 0 ∷ 0
    ∷ 76 ∷ 84 ∷ 11 ∷ 0 ∷ 0 ∷ 0 ∷ 0 ∷ 0 ∷ 0 ∷ 0 ∷ 0
    ∷ []

unfoldable pub p1 : List Case
p1 =
    record {
      start = fresh 2 2;
      events = [];
      answers = [];
      lines = [];
      numbers =
          bytes is 53
          ∷ saved_as fresh_file
          ∷ status is 1
          ∷ flag is 1
          ∷ tail is 0
          ∷ mess is 0
          ∷ low is 1
          ∷ high is 1
          ∷ entered is 0
          ∷ used is 0
          ∷ line 1 is 11
          ∷ my 1 is 0
          ∷ prev 1 is 0
          ∷ succ 1 is 0
          ∷ nxmy 1 is 0
          ∷ slot 1 is 0
          ∷ line 2 is 11
          ∷ my 2 is 0
          ∷ prev 2 is 0
          ∷ succ 2 is 0
          ∷ nxmy 2 is 0
          ∷ slot 2 is 0
          ∷ next 1 is 0
          ∷ locked 1 is 0
          ∷ next 2 is 0
          ∷ locked 2 is 0
          ∷ [];
    }
    ∷ []

-- ---- P2 (1,1) and then (1,0) fourteen times: all 0; line 11, low = high = 2, entered 1, flag 1, tail 0, status 1.

-- its events
abbrev pub passage : List Event
passage = event 1 1 ∷ (14 times event 1 0)

-- thread 1 passes alone
unfoldable pub alone : Case
alone = record {
  start = fresh 2 2;
  events = passage;
  answers = zeros 15;
  lines = [];
  numbers = line 1 is 11 ∷ low is 2 ∷ high is 2 ∷ entered is 1 ∷ flag is 1 ∷ tail is 0 ∷ status is 1 ∷ [];
}

unfoldable pub p2 : List Case
p2 = alone ∷ []

-- ---- P3 the first ten of P2: line 25, tail 0, flag 0, status 2.
unfoldable pub p3 : List Case
p3 =
    record {
      start = fresh 2 2;
      events = take 10 passage;
      answers = zeros 10;
      lines = [];
      numbers = line 1 is 25 ∷ tail is 0 ∷ flag is 0 ∷ status is 2 ∷ [];
    }
    ∷ []

-- ---- P4 fresh: (0,0) and (3,1) give 5; (1,0) and (1,3) give 6.
unfoldable pub p4 : List Case
p4 =
    fresh 2 2 under event 0 0 ∷ [] gives (5 ∷ [])
    ∷ fresh 2 2 under event 3 1 ∷ [] gives (5 ∷ [])
    ∷ fresh 2 2 under event 1 0 ∷ [] gives (6 ∷ [])
    ∷ fresh 2 2 under event 1 3 ∷ [] gives (6 ∷ [])
    ∷ []

-- ---- P5 (1,1), then (2,1) gives 8; (2,2) instead gives 0.
unfoldable pub p5 : List Case
p5 =
    fresh 2 2 under event 1 1 ∷ event 2 1 ∷ [] gives (0 ∷ 8 ∷ [])
    ∷ fresh 2 2 under event 1 1 ∷ event 2 2 ∷ [] gives (0 ∷ 0 ∷ [])
    ∷ []

-- ---- P6 thread 1 through 14 with node 1, then thread 2 through 14 with node 2: prev of thread 2 is 1, slots 1 and 2, tail 2, high 3.
-- Thread 2 does 15 and 18; its next event gives 12.

-- the events of its first sentence, and the lines that they execute
abbrev pub both_through14 : List Event
both_through14 = event 1 1 ∷ (3 times event 1 0) ++ event 2 2 ∷ (3 times event 2 0)

abbrev pub lines11_to14_twice : List ℕ
lines11_to14_twice = 11 ∷ 12 ∷ 13 ∷ 14 ∷ 11 ∷ 12 ∷ 13 ∷ 14 ∷ []

-- thread 2 stands behind thread 1 in the queue
unfoldable pub queued : Case
queued = record {
  start = fresh 2 2;
  events = both_through14;
  answers = zeros 8;
  lines = lines11_to14_twice;
  numbers = prev 2 is 1 ∷ slot 1 is 1 ∷ slot 2 is 2 ∷ tail is 2 ∷ high is 3 ∷ [];
}

unfoldable pub p6 : List Case
p6 =
    queued
    ∷ record {
      start = fresh 2 2;
      events = both_through14 ++ (3 times event 2 0);
      answers = zeros 10 ++ 12 ∷ [];
      lines = lines11_to14_twice ++ 15 ∷ 18 ∷ [];
      numbers = [];
    }
    ∷ []

-- ---- P7 P6 before thread 2's 15: thread 1 does 15, 16, 17, 20, 21, 22 and its next event gives 12. After thread 2's 15 and 18 it gives 0.
unfoldable pub p7 : List Case
p7 =
    record {
      start = fresh 2 2;
      events = both_through14 ++ (7 times event 1 0);
      answers = zeros 14 ++ 12 ∷ [];
      lines = lines11_to14_twice ++ 15 ∷ 16 ∷ 17 ∷ 20 ∷ 21 ∷ 22 ∷ [];
      numbers = [];
    }
    ∷ record {
      start = fresh 2 2;
      events = both_through14 ++ (7 times event 1 0) ++ (2 times event 2 0) ++ event 1 0 ∷ [];
      answers = zeros 14 ++ 12 ∷ 0 ∷ 0 ∷ 0 ∷ [];
      lines = lines11_to14_twice ++ 15 ∷ 16 ∷ 17 ∷ 20 ∷ 21 ∷ 22 ∷ 15 ∷ 18 ∷ [];
      numbers = [];
    }
    ∷ []

-- ---- P8 P6 to its end, then thread 1 runs to the end of 29: locked(2) = 0, flag 0, low 2; thread 2's next event gives 0.

-- the events up to the end of 29, and the lines that they execute: by the table, thread 1 goes from 21 to 25 here, as its succ is node 2
abbrev pub thread1_to_the_end : List Event
thread1_to_the_end = both_through14 ++ (3 times event 2 0) ++ (10 times event 1 0)

abbrev pub lines_to_the_end : List ℕ
lines_to_the_end = lines11_to14_twice ++ 15 ∷ 18 ∷ 15 ∷ 16 ∷ 17 ∷ 20 ∷ 21 ∷ 25 ∷ 26 ∷ 27 ∷ 28 ∷ 29 ∷ []

unfoldable pub p8 : List Case
p8 =
    record {
      start = fresh 2 2;
      events = thread1_to_the_end;
      answers = zeros 10 ++ 12 ∷ zeros 10;
      lines = lines_to_the_end;
      numbers = locked 2 is 0 ∷ flag is 0 ∷ low is 2 ∷ [];
    }
    ∷ record {
      start = fresh 2 2;
      events = thread1_to_the_end ++ event 2 0 ∷ [];
      answers = zeros 10 ++ 12 ∷ zeros 10 ++ 0 ∷ [];
      lines = lines_to_the_end;
      numbers = [];
    }
    ∷ []

-- ---- P9 the first twelve of P2, then (2,1): 0.
unfoldable pub p9 : List Case
p9 = fresh 2 2 under take 12 passage ++ event 2 1 ∷ [] gives zeros 13 ∷ []

-- ---- P10 thread 1 at 12 in an otherwise fresh state: my 0 gives 9, my 1 gives 10.

-- the event is (1,0): away from line 11 the node is 0
abbrev pub thread1_at12 : ℕ → State
thread1_at12 my = fresh_state 2 2 ⟨thread thread 1 ≔ idle ⟨line≔ 12 ⟩ ⟨my≔ node my ⟩ ⟩

unfoldable pub p10 : List Case
p10 =
    by_hand (thread1_at12 0) under event 1 0 ∷ [] gives (9 ∷ [])
    ∷ by_hand (thread1_at12 1) under event 1 0 ∷ [] gives (10 ∷ [])
    ∷ []

-- ---- P11 fresh but entered 1,000,000: (1,1) gives 7; at 999,999 it gives 0. With node 1 also in use and 1,000,000 it is still 7.
abbrev pub entered_at : ℕ → State
entered_at entered = fresh_state 2 2 ⟨shared≔ fresh_shared 2 2 ⟨entered≔ entered ⟩ ⟩

abbrev pub entered_also_in_use : ℕ → State
entered_also_in_use entered = fresh_state 2 2 ⟨shared≔ fresh_shared 2 2 ⟨entered≔ entered ⟩ ⟨used≔ 1 ⟩ ⟩

unfoldable pub p11 : List Case
p11 =
    by_hand (entered_at 1_000_000) under event 1 1 ∷ [] gives (7 ∷ [])
    ∷ by_hand (entered_at 999_999) under event 1 1 ∷ [] gives (0 ∷ [])
    ∷ by_hand (entered_also_in_use 1_000_000) under event 1 1 ∷ [] gives (7 ∷ [])
    ∷ []

-- ---- P12 fresh but thread 1 at 14 with my 1: high 1,000,001 gives 11; high 1,000,000 gives 0 and slot 1,000,000.
abbrev pub thread1_at14 : ℕ → State
thread1_at14 high =
    fresh_state 2 2 ⟨shared≔ fresh_shared 2 2 ⟨high≔ place high ⟩ ⟩ ⟨thread thread 1 ≔ idle ⟨line≔ 14 ⟩ ⟨my≔ node 1 ⟩ ⟩

unfoldable pub p12 : List Case
p12 =
    by_hand (thread1_at14 1_000_001) under event 1 0 ∷ [] gives (11 ∷ [])
    ∷ record {
      start = by_hand (thread1_at14 1_000_000);
      events = event 1 0 ∷ [];
      answers = 0 ∷ [];
      lines = [];
      numbers = slot 1 is 1_000_000 ∷ [];
    }
    ∷ []

-- ---- the list, and its proof
unfoldable pub cases : List Case
cases = p1 ++ p2 ++ p3 ++ p4 ++ p5 ++ p6 ++ p7 ++ p8 ++ p9 ++ p10 ++ p11 ++ p12

pub all_cases_hold : passes_all step cases ≡ true
unfolding cases p1 p2 alone p3 p4 p5 p6 queued p7 p8 p9 p10 p11 p12 passes_all passes
    fresh idle_to valid shared_valid nodes_valid threads_valid line_at in_use alone_in put_in take_out refusal perform advance step
    status_asked status_of how_many_threads_to bytes_of laid
all_cases_hold = refl
