-- What was saved is read as it was. Each table of a valid state is its first elements and zeros (Tables), and the records of these elements are good
-- and read as they were. Rests on the round trip of records (crate `rows`). Assumes nothing.
use Rattle.std.specs.Prelude.{true, ◌≡◌, ℕ, ◌*◌, ◌≤◌, drop, length, take}
use mathlib.Core.List.{List, [], ◌++◌, append-nil}
use Rattle.std.proofs.Common.{ap, sym, ◌∙◌, arith, drop_at, drop-drop, length-take-le}
use Rattle.std.proofs.Math.Path.{refl}
use borrow.Author.Tests.{eq-eqb}
use Rattle.lock.specs.Fresh.{opened}
use Rattle.lock.specs.Judged.{nodes_agree, passed, rule_shared, rule_valid, threads_agree}
use Rattle.lock.specs.State.{zero_node, zero_thread}
use Rattle.lock.specs.Valid.{Valid, node_in_range, node_is_zero, nodes_valid, shared_valid, thread_in_range, thread_is_zero, threads_valid, up_to}
use Rattle.lock.specs.declared.Shared.{Shared}
use Rattle.lock.specs.declared.State.{State}
use Rattle.number.specs.Refused.{done}
use Rattle.number.specs.Tests.{all_hold_lem}
use Rattle.rows.specs.Round.{good_laid, values_laid}
use Rattle.rows.specs.Rows.{Kind, Lawful, all_good, all_in, laid, letter_h, letter_l, marked, values}
use Rattle.saved.specs.Proof.Records.{header_lawful, node_lawful, thread_lawful}
use Rattle.saved.specs.Proof.Size.{length_bytes, length_nodes}
use Rattle.saved.specs.Proof.Tables.{front_in, front_zeros}
use Rattle.saved.specs.Saved.{bytes_of, good_by, good_tests, header_in, header_width, node_record, node_width, nodes_bytes, read}
use Rattle.saved.specs.Saved.{saved_good, state_by, state_in, table_in, thread_record, threads_bytes, threads_place}

-- ---- the records of the first n elements of a table
module _ {A : Type 0} (kind : Kind A) (lawful : Lawful kind) (n : ℕ) (xs : List A) (r : List ℕ) where
  front_good : n ≤ length xs → all_in kind.in_range (take n xs) ≡ true → all_good kind n (laid kind (take n xs) ++ r) ≡ true
  front_good l h = rw (length-take-le n xs l) at (good_laid kind lawful (take n xs) r h)

  front_read : n ≤ length xs → all_in kind.in_range (take n xs) ≡ true → values kind n (laid kind (take n xs) ++ r) ≡ take n xs
  front_read l h = rw (length-take-le n xs l) at (values_laid kind lawful (take n xs) r h)

-- ---- a valid state
module _ (s : State) (v : Valid s) where
  abbrev K : ℕ
  K = s.shared.nodes

  abbrev T : ℕ
  T = s.shared.threads

  few_nodes : K ≤ length s.node
  few_nodes = omega (arith, v.sized.nodes, v.shared.nodes.to)

  few_threads : T ≤ length s.thread
  few_threads = omega (arith, v.sized.threads, v.shared.threads.to)

  -- its tests
  shared_test : shared_valid s.shared ≡ true
  shared_test = rule_shared s.shared v.shared

  nodes_test : up_to (node_in_range K) node_is_zero K s.node ≡ true
  unfolding nodes_valid
  nodes_test = (passed s (rule_valid s v)).nodes

  threads_test : up_to (thread_in_range K) thread_is_zero T s.thread ≡ true
  unfolding threads_valid
  threads_test = (passed s (rule_valid s v)).threads

  nodes_in_lem : all_in (node_in_range K) (take K s.node) ≡ true
  nodes_in_lem = front_in (nodes_agree K) K s.node nodes_test

  threads_in_lem : all_in (thread_in_range K) (take T s.thread) ≡ true
  threads_in_lem = front_in (threads_agree K) T s.thread threads_test

  -- its bytes: the header stands at the start, and says the shared numbers ..
  begins : marked letter_l letter_h (bytes_of s) ≡ true
  unfolding bytes_of
  begins = refl

  header_same : header_in (bytes_of s) ≡ s.shared
  unfolding bytes_of
  header_same = header_lawful.reads s.shared (nodes_bytes s ++ threads_bytes s) shared_test

  -- .. behind it stand the nodes, and behind these the threads
  behind_header : drop header_width (bytes_of s) ≡ nodes_bytes s ++ threads_bytes s
  unfolding bytes_of
  behind_header = refl

  behind_nodes : drop (threads_place K) (bytes_of s) ≡ threads_bytes s ++ []
  behind_nodes =
      let l = length_nodes s v.sized v.shared.nodes.to v.shared.threads.to in
      sym (drop-drop (node_width * K) header_width (bytes_of s))
      ∙ rw (behind_header, append-nil (threads_bytes s)) (drop_at (nodes_bytes s) (threads_bytes s) (node_width * K) l)

  -- they are a good file ..
  good_same : good_by s.shared (bytes_of s) ≡ true
  unfolding good_by
  good_same =
      let exact = eq-eqb _ _ (length_bytes s v.sized v.shared.nodes.to v.shared.threads.to) in
      let nodes = front_good (node_record K) (node_lawful K) K s.node (threads_bytes s) few_nodes nodes_in_lem in
      let threads = front_good (thread_record K) (thread_lawful K) T s.thread [] few_threads threads_in_lem in
      all_hold_lem (good_tests s.shared (bytes_of s)) (exact, (begins, (shared_test, (rw behind_header nodes, (rw behind_nodes threads, tt)))))

  -- .. that holds the state
  nodes_same : table_in (node_record K) zero_node K (drop header_width (bytes_of s)) ≡ s.node
  nodes_same =
      rw (behind_header, front_read (node_record K) (node_lawful K) K s.node (threads_bytes s) few_nodes nodes_in_lem)
      (front_zeros (nodes_agree K) K s.node v.sized.nodes nodes_test)

  threads_same : table_in (thread_record K) zero_thread T (drop (threads_place K) (bytes_of s)) ≡ s.thread
  threads_same =
      rw (behind_nodes, front_read (thread_record K) (thread_lawful K) T s.thread [] few_threads threads_in_lem)
      (front_zeros (threads_agree K) T s.thread v.sized.threads threads_test)

  state_same : state_by s.shared (bytes_of s) ≡ s
  unfolding state_by
  state_same = λ i. record { shared = s.shared; node = nodes_same i; thread = threads_same i }

  -- So they are a good file of the numbers that their header says, and hold the state ..
  pub good_bytes : saved_good (bytes_of s) ≡ true
  good_bytes = ap (λ (sh : Shared). good_by sh (bytes_of s)) header_same ∙ good_same

  pub held_bytes : state_in (bytes_of s) ≡ s
  held_bytes = ap (λ (sh : Shared). state_by sh (bytes_of s)) header_same ∙ state_same

  -- .. as which they are read.
  pub read_save : read (bytes_of s) ≡ opened done s
  unfolding read
  read_save = rw (good_bytes, held_bytes)
