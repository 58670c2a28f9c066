-- Document 01, "Saved state", in its order: the marks, numbers of four bytes, the three kinds of record, the length, and the rule that a saved state
-- is held to, as facts to be read (SavedFile). Then the test that the code makes (saved_good), and the two calls, read and save. Theorems.antt says
-- that the test and the facts agree, and that read and save undo each other. Rests on records in general (crate `rows`). Assumes nothing.
use Rattle.std.specs.Prelude.{Bool, cond, not, List, [], ◌∷◌, ◌++◌, ◌≡◌, ℕ, ◌+◌, ◌-◌, ◌*◌, ◌/◌, ◌%◌, ◌<◌, eqb, ltb, drop, get_or, length, replicate, take}
use Rattle.lock.specs.Fresh.{opened}
use Rattle.lock.specs.State.{table_size, zero_node, zero_state, zero_thread}
use Rattle.lock.specs.Valid.{NodeRange, SharedRange, ThreadRange, Valid, node_in_range, shared_valid, thread_in_range, valid}
use Rattle.lock.specs.declared.Node.{Node}
use Rattle.lock.specs.Fresh.{Opened}
use Rattle.lock.specs.declared.Shared.{Shared}
use Rattle.lock.specs.declared.State.{State}
use Rattle.lock.specs.declared.Thread.{Thread}
use Rattle.number.specs.Numbers.{node, place}
use Rattle.number.specs.First.{Condition, ◌given-when◌}
use Rattle.number.specs.Refused.{Refusal, ◌if◌, bad_state, done, first_of, too_short}
use Rattle.number.specs.Tests.{all_hold}
use Rattle.rows.specs.Rows.{Kind, MarkAt, letter_h, letter_l, letter_n, letter_t, all_good, laid, marked, over, values}

-- ---- "Numbers of four bytes have the lowest byte first."

abbrev pub four_bytes : ℕ → List ℕ
four_bytes n = n % 256 ∷ n / 256 % 256 ∷ n / 65_536 % 256 ∷ n / 16_777_216 % 256 ∷ []

-- the number whose four bytes stand in b from a place on
abbrev pub four_at : List ℕ → ℕ → ℕ
four_at b at = get_or b at 0 + 256 * get_or b (at + 1) 0 + 65_536 * get_or b (at + 2) 0 + 16_777_216 * get_or b (at + 3) 0

-- these four bytes
abbrev pub four_from : List ℕ → ℕ → List ℕ
four_from b at = get_or b at 0 ∷ get_or b (at + 1) 0 ∷ get_or b (at + 2) 0 ∷ get_or b (at + 3) 0 ∷ []

-- ---- "`LH`, T, K, flag, tail, mess, low (4), high (4), entered (4), nodes in use (4): 23 bytes."

abbrev pub header_width : ℕ
header_width = 23

abbrev pub header_bytes : Shared → List ℕ
header_bytes sh =
    letter_l ∷ letter_h ∷ sh.threads ∷ sh.nodes ∷ sh.flag ∷ sh.tail.0 ∷ sh.mess.0
    ∷ four_bytes sh.low.0 ++ four_bytes sh.high.0 ++ four_bytes sh.entered ++ four_bytes sh.used

-- what the header at the start of b says
abbrev pub header_in : List ℕ → Shared
header_in b = record {
  threads = get_or b 2 0;
  nodes = get_or b 3 0;
  flag = get_or b 4 0;
  tail = node (get_or b 5 0);
  mess = node (get_or b 6 0);
  low = place (four_at b 7);
  high = place (four_at b 11);
  entered = four_at b 15;
  used = four_at b 19;
}

abbrev pub header : Kind Shared
header = record { width = header_width; mark₁ = letter_l; mark₂ = letter_h; bytes = header_bytes; value = header_in; in_range = shared_valid }

-- ---- "K times `LN`, next, locked: 4 bytes each."

abbrev pub node_width : ℕ
node_width = 4

abbrev pub node_bytes : Node → List ℕ
node_bytes v = letter_l ∷ letter_n ∷ v.next.0 ∷ v.locked ∷ []

-- what the record of a node at the start of b says
abbrev pub node_in : List ℕ → Node
node_in b = record { next = node (get_or b 2 0); locked = get_or b 3 0 }

-- the records of nodes where there are K nodes
abbrev pub node_record : ℕ → Kind Node
node_record K = record { width = node_width; mark₁ = letter_l; mark₂ = letter_n; bytes = node_bytes; value = node_in; in_range = node_in_range K }

-- ---- "T times `Lt`, line, my, prev, succ, nxmy, slot (4): 11 bytes each."

abbrev pub thread_width : ℕ
thread_width = 11

abbrev pub thread_bytes : Thread → List ℕ
thread_bytes v = letter_l ∷ letter_t ∷ v.line ∷ v.my.0 ∷ v.prev.0 ∷ v.succ.0 ∷ v.nxmy.0 ∷ four_bytes v.slot.0

-- what the record of a thread at the start of b says
abbrev pub thread_in : List ℕ → Thread
thread_in b = record {
  line = get_or b 2 0;
  my = node (get_or b 3 0);
  prev = node (get_or b 4 0);
  succ = node (get_or b 5 0);
  nxmy = node (get_or b 6 0);
  slot = place (four_at b 7);
}

-- the records of threads where there are K nodes
abbrev pub thread_record : ℕ → Kind Thread
thread_record K = record { width = thread_width; mark₁ = letter_l; mark₂ = letter_t; bytes = thread_bytes; value = thread_in; in_range = thread_in_range K }

-- ---- a saved state: the header, then the records of the K nodes, then those of the T threads

abbrev pub nodes_bytes : State → List ℕ
nodes_bytes s = let K = s.shared.nodes in laid (node_record K) (take K s.node)

abbrev pub threads_bytes : State → List ℕ
threads_bytes s = let K = s.shared.nodes in let T = s.shared.threads in laid (thread_record K) (take T s.thread)

unfoldable pub bytes_of : State → List ℕ
bytes_of s = header_bytes s.shared ++ nodes_bytes s ++ threads_bytes s

-- where the records of threads begin
abbrev pub threads_place : ℕ → ℕ
threads_place K = header_width + node_width * K

-- "Length is exactly 23 + 4K + 11T"
abbrev pub size : ℕ → ℕ → ℕ
size T K = header_width + node_width * K + thread_width * T

-- ---- the rule: "Flag and locked are 0 or 1. Tail, next, my, prev, succ, nxmy and mess are 0 to K. Bits of the word from K up are 0. Low and high are
-- 1 to 1,000,001, entered and slot at most 1,000,000, lines 11 to 29." These are SharedRange, NodeRange and ThreadRange of lock/specs/Valid. "Any
-- state in these ranges is accepted, even one no run reaches."
module _ (b : List ℕ) where
  abbrev K : ℕ
  K = (header_in b).nodes

  abbrev T : ℕ
  T = (header_in b).threads

  pub record SavedFile : Type 0 where
    -- "Length is exactly 23 + 4K + 11T"
    pub exact : length b ≡ size T K
    -- the header
    pub header_mark : MarkAt b 0 letter_l letter_h
    pub shared : SharedRange (header_in b)
    -- the K nodes behind it
    pub node_mark : (i : ℕ) → i < K → MarkAt b (header_width + node_width * i) letter_l letter_n
    pub node : (i : ℕ) → i < K → NodeRange K (node_in (drop (header_width + node_width * i) b))
    -- and the T threads behind these
    pub thread_mark : (i : ℕ) → i < T → MarkAt b (threads_place K + thread_width * i) letter_l letter_t
    pub thread : (i : ℕ) → i < T → ThreadRange K (thread_in (drop (threads_place K + thread_width * i) b))

-- ---- the test. The numbers sh of the header stand apart from b, so that a proof can name them.

abbrev pub good_tests : Shared → List ℕ → List Bool
good_tests sh b =
    let K = sh.nodes in
    let T = sh.threads in
    eqb (length b) (size T K)
    ∷ marked letter_l letter_h b
    ∷ shared_valid sh
    ∷ all_good (node_record K) K (drop header_width b)
    ∷ all_good (thread_record K) T (drop (threads_place K) b)
    ∷ []

unfoldable pub good_by : Shared → List ℕ → Bool
good_by sh b = all_hold (good_tests sh b)

abbrev pub saved_good : List ℕ → Bool
saved_good b = good_by (header_in b) b

-- ---- reading

-- a table of what the first n records of b say, with the zero in every place past them
abbrev pub table_in : {A : Type 0} → Kind A → A → ℕ → List ℕ → List A
table_in kind zero n b = values kind n b ++ replicate (table_size - n) zero

unfoldable pub state_by : Shared → List ℕ → State
state_by sh b =
    let K = sh.nodes in
    let T = sh.threads in
    record {
      shared = sh;
      node = table_in (node_record K) zero_node K (drop header_width b);
      thread = table_in (thread_record K) zero_thread T (drop (threads_place K) b);
    }

-- the state that b holds
abbrev pub state_in : List ℕ → State
state_in b = state_by (header_in b) b

-- 1, "the saved state breaks a rule above"; "a refused reading .. gives a state with 0 everywhere"
unfoldable pub read : List ℕ → Opened
read b = cond (saved_good b) (opened done (state_in b)) (opened bad_state zero_state)

-- ---- saving

-- how many bytes the saved state of s has
abbrev pub size_of : State → ℕ
size_of s = size s.shared.threads s.shared.nodes

-- 1, "A state that is not in bytes is held to the same ranges ..; otherwise it gives 1"; then 4, "a lent output is too short"
abbrev pub save_conditions : State → List ℕ → List Condition
save_conditions s out = bad_state given-when (¬ Valid s) ∷ too_short given-when (length out < size_of s) ∷ []

-- the same, as the code tests it
abbrev pub save_refusals : State → List ℕ → List Refusal
save_refusals s out = bad_state if not (valid s) ∷ too_short if ltb (length out) (size_of s) ∷ []

unfoldable pub save_number : State → List ℕ → ℕ
save_number s out = first_of (save_refusals s out)

-- "A saved state is written at the start of its buffer, and bytes after it stay." "Every refusal leaves .. all lent bytes unchanged"
unfoldable pub saved_over : State → List ℕ → List ℕ
saved_over s out = cond (eqb (save_number s out) done) (over (bytes_of s) out) out
