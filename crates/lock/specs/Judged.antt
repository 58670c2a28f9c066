-- The test of a state and the rule that a state is held to agree: `valid_rule` and `rule_valid`. `x-rule` leads from a test to the rule, `rule-x` back.
-- Each part of the test is a list of tests, and each of these stands for one fact of the rule. Of a table one law each way, for any element, turns the
-- test of all its places into facts about its numbers. Rests on Tests (crate `number`) and on the laws of the word. Assumes nothing.
use Rattle.std.specs.Prelude.{Bool, false, not, true, ◌&&◌, ◌||◌, List, [], ◌∷◌, ◌≢◌, ◌≡◌, refl, ℕ, zero, suc, ◌≤◌, ◌<◌, eqb, leb, ltb, get_or, length}
use Rattle.std.proofs.Common.{ap, le_of_suc-le-suc, arith, eqb-true, le-leb, leb-true, ltb-false, ltb-true}
use Rattle.std.proofs.lemmas.Bool.{eqb-false}
use Rattle.number.specs.First.{◌given-when◌}
use Rattle.number.specs.FirstThat.{Reflects, judges_rule}
use Rattle.number.specs.Numbers.{node, place, thread}
use Rattle.number.specs.Refused.{◌if◌, bad_state}
use Rattle.number.specs.Sizes.{most_nodes, most_threads}
use Rattle.word.specs.Laws.{from_none, none_from_lem}
use Rattle.lock.specs.Fresh.{in_size}
use Rattle.lock.specs.State.{nth, zero_node, zero_thread}
use Rattle.number.specs.Tests.{EachHolds, all_hold_lem, both_hold, each_holds, either_holds, first_holds, neither_holds, second_holds}
use Rattle.lock.specs.Valid.{Between, NodeRange, SharedRange, Sized, ThreadRange, Valid, nodes_valid, shared_tests, shared_valid, threads_valid, up_to, valid}
use Rattle.lock.specs.Valid.{node_in_range, node_is_zero, node_tests, node_zeros, thread_in_range, thread_is_zero, thread_tests, thread_zeros}
use Rattle.lock.specs.declared.Node.{Node}
use Rattle.lock.specs.declared.Shared.{Shared}
use Rattle.lock.specs.declared.State.{State}
use Rattle.lock.specs.declared.Thread.{Thread}

-- ---- T and K

-- `in_size`, as a list of tests
abbrev size_tests : ℕ → ℕ → List Bool
size_tests T K = leb 1 T ∷ leb T most_threads ∷ leb 1 K ∷ leb K most_nodes ∷ []

-- T and K that pass the test are 1 to 32.
pub size_rule : (T K : ℕ) → in_size T K ≡ true → Between 1 T most_threads × Between 1 K most_nodes
size_rule T K h = let e : EachHolds (size_tests T K) = each_holds (size_tests T K) h in search leb-true

-- T and K of 1 to 32 pass the test.
pub rule_size : (T K : ℕ) → Between 1 T most_threads → Between 1 K most_nodes → in_size T K ≡ true
rule_size T K t k = all_hold_lem (size_tests T K) (search le-leb)

-- ---- the shared numbers

-- Shared numbers that pass the test are in the ranges.
pub shared_rule : (sh : Shared) → shared_valid sh ≡ true → SharedRange sh
unfolding shared_valid
shared_rule sh h =
    let e : EachHolds (shared_tests sh) = each_holds (shared_tests sh) h in
    let size : Between 1 sh.threads most_threads × Between 1 sh.nodes most_nodes = size_rule sh.threads sh.nodes e.0 in
    search (leb-true, none_from_lem)

-- Shared numbers in the ranges pass the test. (The search goes one deeper with each of the tests.)
pub rule_shared : (sh : Shared) → SharedRange sh → shared_valid sh ≡ true
unfolding shared_valid
rule_shared sh r =
    all_hold_lem (shared_tests sh) (rule_size sh.threads sh.nodes r.threads r.nodes, search (le-leb, from_none) depth 12)

-- ---- a node

-- A node that passes the test is in the ranges.
pub node_rule : (nodes : ℕ) (v : Node) → node_in_range nodes v ≡ true → NodeRange nodes v
node_rule nodes v h = let e : EachHolds (node_tests nodes v) = each_holds (node_tests nodes v) h in search leb-true

-- A node in the ranges passes the test.
pub rule_node : (nodes : ℕ) (v : Node) → NodeRange nodes v → node_in_range nodes v ≡ true
rule_node nodes v r = all_hold_lem (node_tests nodes v) (search le-leb)

-- A node that passes the test for zeros is the one with 0 everywhere: each of its numbers is.
pub node_zero : (v : Node) → node_is_zero v ≡ true → v ≡ zero_node
node_zero v h =
    let (next, (locked, _)) = each_holds (node_zeros v) h in
    λ i. record { next = node (eqb-true v.next.0 0 next i); locked = eqb-true v.locked 0 locked i }

-- The node with 0 everywhere passes the test for zeros.
pub zero_node_lem : (v : Node) → v ≡ zero_node → node_is_zero v ≡ true
zero_node_lem v e = ap node_is_zero e

-- ---- a thread

-- A thread that passes the test is in the ranges.
pub thread_rule : (nodes : ℕ) (v : Thread) → thread_in_range nodes v ≡ true → ThreadRange nodes v
thread_rule nodes v h = let e : EachHolds (thread_tests nodes v) = each_holds (thread_tests nodes v) h in search leb-true

-- A thread in the ranges passes the test.
pub rule_thread : (nodes : ℕ) (v : Thread) → ThreadRange nodes v → thread_in_range nodes v ≡ true
rule_thread nodes v r = all_hold_lem (thread_tests nodes v) (search le-leb)

-- A thread that passes the test for zeros is the one with 0 everywhere: each of its numbers is.
pub thread_zero : (v : Thread) → thread_is_zero v ≡ true → v ≡ zero_thread
thread_zero v h =
    let (line, (my, (prev, (succ, (nxmy, (slot, _)))))) = each_holds (thread_zeros v) h in
    λ i. record {
      line = eqb-true v.line 0 line i;
      my = node (eqb-true v.my.0 0 my i);
      prev = node (eqb-true v.prev.0 0 prev i);
      succ = node (eqb-true v.succ.0 0 succ i);
      nxmy = node (eqb-true v.nxmy.0 0 nxmy i);
      slot = place (eqb-true v.slot.0 0 slot i);
    }

-- The thread with 0 everywhere passes the test for zeros.
pub zero_thread_lem : (v : Thread) → v ≡ zero_thread → thread_is_zero v ≡ true
zero_thread_lem v e = ap thread_is_zero e

-- ---- a table, of nodes or of threads

-- What stands at the numbers 1 to n is in the ranges, and at every number past n stands d.
pub record Ruled {A : Type 0} (InRange : A → Type 0) (d : A) (n : ℕ) (xs : List A) : Type 0 where
  pub within : (k : ℕ) → 1 ≤ k → k ≤ n → InRange (nth xs k d)
  pub past : (k : ℕ) → n < k → nth xs k d ≡ d

-- Of an element the test `within` agrees with the ranges, and the test `past` with d.
pub record Agree {A : Type 0} (within past : A → Bool) (InRange : A → Type 0) (d : A) : Type 0 where
  pub within_range : (x : A) → within x ≡ true → InRange x
  pub range_within : (x : A) → InRange x → within x ≡ true
  pub past_zero : (x : A) → past x ≡ true → x ≡ d
  pub zero_past : (x : A) → x ≡ d → past x ≡ true

module _ {A : Type 0} {within past : A → Bool} {InRange : A → Type 0} {d : A} (agree : Agree within past InRange d) where
  -- the test at places, which are counted from 0: those below n, and those from n on
  places_within : (n : ℕ) (xs : List A) (i : ℕ) → up_to within past n xs ≡ true → i < n → i < length xs → InRange (get_or xs i d)
  places_within n [] i h l m = absurd (omega arith)
  places_within zero (x ∷ xs) i h l m = absurd (omega arith)
  places_within (suc n) (x ∷ xs) zero h l m = agree.within_range x (first_holds (within x) _ h)
  places_within (suc n) (x ∷ xs) (suc i) h l m =
      places_within n xs i (second_holds (within x) _ h) (le_of_suc-le-suc l) (le_of_suc-le-suc m)

  places_past : (n : ℕ) (xs : List A) (i : ℕ) → up_to within past n xs ≡ true → n ≤ i → get_or xs i d ≡ d
  places_past n [] i h l = refl
  places_past zero (x ∷ xs) zero h l = agree.past_zero x (first_holds (past x) _ h)
  places_past zero (x ∷ xs) (suc i) h l = places_past zero xs i (second_holds (past x) _ h) (omega arith)
  places_past (suc n) (x ∷ xs) zero h l = absurd (omega arith)
  places_past (suc n) (x ∷ xs) (suc i) h l = places_past n xs i (second_holds (within x) _ h) (le_of_suc-le-suc l)

  -- and back
  places_test : (n : ℕ) (xs : List A) → ((i : ℕ) → i < n → InRange (get_or xs i d)) → ((i : ℕ) → n ≤ i → get_or xs i d ≡ d)
      → up_to within past n xs ≡ true
  places_test n [] w p = refl
  places_test zero (x ∷ xs) w p =
      both_hold (agree.zero_past x (p 0 (omega arith)))
      (places_test zero xs (λ i l. absurd (omega arith)) (λ i l. p (suc i) (omega arith)))
  places_test (suc n) (x ∷ xs) w p =
      both_hold (agree.range_within x (w 0 (omega arith)))
      (places_test n xs (λ i l. w (suc i) (omega arith)) (λ i l. p (suc i) (omega arith)))

  -- A table that passes the test is as the rule says.
  pub table_rule : (n : ℕ) (xs : List A) → n ≤ length xs → up_to within past n xs ≡ true → Ruled InRange d n xs
  table_rule n xs l h = record { within = inside; past = outside }
    where
      inside : (k : ℕ) → 1 ≤ k → k ≤ n → InRange (nth xs k d)
      inside zero a b = absurd (omega arith)
      inside (suc k) a b = places_within n xs k h b (omega arith)

      outside : (k : ℕ) → n < k → nth xs k d ≡ d
      outside zero a = refl
      outside (suc k) a = places_past n xs k h (le_of_suc-le-suc a)

  -- A table that is as the rule says passes the test.
  pub rule_table : (n : ℕ) (xs : List A) → Ruled InRange d n xs → up_to within past n xs ≡ true
  rule_table n xs r = places_test n xs (λ i l. r.within (suc i) (omega arith) l) (λ i l. r.past (suc i) (omega arith))

-- The tests of a node agree with the rule.
pub nodes_agree : (nodes : ℕ) → Agree (node_in_range nodes) node_is_zero (NodeRange nodes) zero_node
nodes_agree nodes =
    record { within_range = node_rule nodes; range_within = rule_node nodes; past_zero = node_zero; zero_past = zero_node_lem }

-- The tests of a thread agree with the rule.
pub threads_agree : (nodes : ℕ) → Agree (thread_in_range nodes) thread_is_zero (ThreadRange nodes) zero_thread
threads_agree nodes =
    record { within_range = thread_rule nodes; range_within = rule_thread nodes; past_zero = thread_zero; zero_past = zero_thread_lem }

-- ---- the state

-- the three parts of the test of a state
pub record Passed (s : State) : Type 0 where
  pub shared : shared_valid s.shared ≡ true
  pub nodes : nodes_valid s.shared.nodes s.node ≡ true
  pub threads : threads_valid s.shared.nodes s.shared.threads s.thread ≡ true

pub passed : (s : State) → valid s ≡ true → Passed s
unfolding valid
passed s h =
    let before = shared_valid s.shared && nodes_valid s.shared.nodes s.node in
    let front = first_holds before _ h in
    record { shared = first_holds _ _ front; nodes = second_holds (shared_valid s.shared) _ front; threads = second_holds before _ h }

-- A state that passes the test is as the rule says.
pub valid_rule : (s : State) → Sized s → valid s ≡ true → Valid s
unfolding nodes_valid threads_valid
valid_rule s sized h =
    let K = s.shared.nodes in
    let p = passed s h in
    let shared = shared_rule s.shared p.shared in
    let nodes = table_rule (nodes_agree K) K s.node (omega arith) p.nodes in
    let threads = table_rule (threads_agree K) s.shared.threads s.thread (omega arith) p.threads in
    record {
      shared = shared;
      node = λ k l m. nodes.within k.0 l m;
      thread = λ t l m. threads.within t.0 l m;
      past_nodes = λ k l. nodes.past k.0 l;
      past_threads = λ t l. threads.past t.0 l;
      sized = sized;
    }

-- A state that is as the rule says passes the test.
pub rule_valid : (s : State) → Valid s → valid s ≡ true
unfolding valid nodes_valid threads_valid
rule_valid s v =
    let K = s.shared.nodes in
    let nodes : Ruled (NodeRange K) zero_node K s.node =
    record { within = λ k l m. v.node (node k) l m; past = λ k l. v.past_nodes (node k) l } in
    let threads : Ruled (ThreadRange K) zero_thread s.shared.threads s.thread =
    record { within = λ t l m. v.thread (thread t) l m; past = λ t l. v.past_threads (thread t) l } in
    both_hold
    (both_hold (rule_shared s.shared v.shared) (rule_table (nodes_agree K) K s.node nodes))
    (rule_table (threads_agree K) s.shared.threads s.thread threads)

-- ---- the tests of refusals that several calls make

-- Refusal 1 of a state that is not in bytes: its test says that the state breaks the rule.
pub judges_state : (s : State) → Sized s → Reflects (bad_state if not (valid s)) (bad_state given-when (¬ Valid s))
judges_state s sized = judges_rule bad_state (valid_rule s sized, rule_valid s)

-- A thread or node number k that passes the test of n is 1 to n.
pub in_table : (k n : ℕ) → (eqb k 0 || ltb n k) ≡ false → Between 1 k n
in_table k n h =
    let r = neither_holds (eqb k 0) (ltb n k) h in
    let not_zero : k ≢ 0 = eqb-false _ _ r.0 in
    record { from = omega arith; to = ltb-false _ _ r.1 }

-- The refusal of one that is not 1 to n.
pub judges_outside : (number k n : ℕ) → Reflects (number if (eqb k 0 || ltb n k)) (number given-when (¬ Between 1 k n))
judges_outside number k n = record {
  holds = λ e. ((λ b. either_holds (eqb k 0) (ltb n k) e (λ z. omega (arith, eqb-true k 0 z)) (λ z. omega (arith, ltb-true n k z))), refl);
  fails = λ e outside. outside (in_table k n e);
}
