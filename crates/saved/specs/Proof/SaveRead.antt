-- What a good file holds is valid, and is written as it was. Each table that is read is in range up to its last record, with zeros past it; each part
-- of the file is written as it was. Rests on the round trip of records (crate `rows`). Assumes nothing.
use Rattle.std.specs.Prelude.{Bool, true, List, ◌++◌, ◌≡◌, ℕ, ◌-◌, ◌*◌, ◌≤◌, replicate, take}
use Rattle.std.proofs.Common.{◌∙◌, arith, length-append, take-append-drop, take_at, eqb-true}
use Rattle.std.proofs.Math.ListN.{drop, length, length-drop}
use Rattle.std.proofs.lemmas.List.{length-replicate}
use Rattle.std.proofs.Math.Seq.{take-add, take_all}
use Rattle.lock.specs.Judged.{Agree, nodes_agree, shared_rule, threads_agree, valid_rule}
use Rattle.lock.specs.State.{table_size, zero_node, zero_thread}
use Rattle.lock.specs.Valid.{SharedRange, Sized, Valid, nodes_valid, threads_valid, up_to, valid}
use Rattle.lock.specs.declared.Shared.{Shared}
use Rattle.number.specs.Tests.{EachHolds, both_hold, each_holds}
use Rattle.rows.specs.Loops.{length_values}
use Rattle.rows.specs.Round.{bytes_past, laid_values, values_in}
use Rattle.rows.specs.Rows.{Bytes, Kind, Lawful, all_good, laid, values}
use Rattle.saved.specs.Proof.Records.{header_lawful, node_lawful, thread_lawful}
use Rattle.saved.specs.Proof.Tables.{filled_passes}
use Rattle.saved.specs.Saved.{bytes_of, good_by, good_tests, header_bytes, header_in, header_width, node_record, node_width, nodes_bytes}
use Rattle.saved.specs.Saved.{saved_good, size, state_by, state_in, table_in, thread_record, thread_width, threads_bytes, threads_place}

-- ---- the table that is read from n records
module _ {A : Type 0} (kind : Kind A) (lawful : Lawful kind) (z : A) (n : ℕ) (b : List ℕ) where
  table_length : n ≤ table_size → length (table_in kind z n b) ≡ table_size
  table_length l = simp (length-append, length-replicate, length_values) (omega arith)

  -- it passes the test of a table
  table_passes : {past : A → Bool} {InRange : A → Type 0} → Agree kind.in_range past InRange z → all_good kind n b ≡ true
      → up_to kind.in_range past n (table_in kind z n b) ≡ true
  table_passes agree h = rw (length_values kind n b) at (filled_passes agree (values kind n b) (table_size - n) (values_in kind lawful n b h))

  -- its first n elements are written as they were
  table_again : Bytes b → kind.width * n ≤ length b → all_good kind n b ≡ true → laid kind (take n (table_in kind z n b)) ≡ take (kind.width * n) b
  table_again bytes l h =
      rw (take_at (values kind n b) (replicate (table_size - n) z) n (length_values kind n b)) (laid_values kind lawful n b bytes l h)

-- ---- a file that is good for the numbers sh of its header
module _ (sh : Shared) (b : List ℕ) (good : good_by sh b ≡ true) where
  abbrev K : ℕ
  K = sh.nodes

  abbrev T : ℕ
  T = sh.threads

  tests : EachHolds (good_tests sh b)
  unfolding good_by
  tests = each_holds (good_tests sh b) good

  exact : length b ≡ size T K
  exact = eqb-true _ _ tests.0

  range : SharedRange sh
  range = shared_rule sh tests.1.1.0

  sized : Sized (state_by sh b)
  unfolding state_by
  sized = record {
    nodes = table_length (node_record K) (node_lawful K) zero_node K (drop header_width b) range.nodes.to;
    threads = table_length (thread_record K) (thread_lawful K) zero_thread T (drop (threads_place K) b) range.threads.to;
  }

  -- the state that it holds is valid
  passes : valid (state_by sh b) ≡ true
  unfolding state_by valid nodes_valid threads_valid
  passes =
      let nodes = table_passes (node_record K) (node_lawful K) zero_node K (drop header_width b) (nodes_agree K) tests.1.1.1.0 in
      let threads = table_passes (thread_record K) (thread_lawful K) zero_thread T (drop (threads_place K) b) (threads_agree K) tests.1.1.1.1.0 in
      both_hold (both_hold tests.1.1.0 nodes) threads

  pub state_valid : Valid (state_by sh b)
  state_valid = valid_rule (state_by sh b) sized passes

  -- its nodes and its threads are written as they were
  module _ (bytes : Bytes b) where
    nodes_again : nodes_bytes (state_by sh b) ≡ take (node_width * K) (drop header_width b)
    unfolding state_by
    nodes_again =
        let l : node_width * K ≤ length (drop header_width b) = simp length-drop (omega (arith, exact)) in
        table_again (node_record K) (node_lawful K) zero_node K (drop header_width b) (bytes_past header_width b bytes) l tests.1.1.1.0

    threads_again : threads_bytes (state_by sh b) ≡ drop (threads_place K) b
    unfolding state_by
    threads_again =
        let r = drop (threads_place K) b in
        let l : length r ≡ thread_width * T = simp length-drop (omega (arith, exact)) in
        table_again (thread_record K) (thread_lawful K) zero_thread T r (bytes_past (threads_place K) b bytes) (omega arith) tests.1.1.1.1.0
        ∙ take_all (thread_width * T) r (omega arith)

    behind_again : header_bytes sh ≡ take header_width b → bytes_of (state_by sh b) ≡ b
    unfolding bytes_of state_by
    behind_again h =
        (λ i. h i ++ nodes_again i ++ threads_again i)
        ∙ rw (← take-add header_width (node_width * K) b) (take-append-drop (threads_place K) b)

-- What is read from a file is written as it was.
pub save_read : (b : List ℕ) → Bytes b → saved_good b ≡ true → bytes_of (state_in b) ≡ b
save_read b bytes good =
    let mark = (tests (header_in b) b good).1.0 in
    behind_again (header_in b) b good bytes (header_lawful.writes b bytes (omega (arith, exact (header_in b) b good)) mark)
