-- The test of a file and the rule that a saved state is held to agree: `good_rule` leads from the test to the rule, `rule_good` back. Each test of a
-- record stands for its mark and its ranges, and all records of a kind pass exactly if each one does. Rests on Judged (crate `lock`) for the ranges
-- and on Places (crate `rows`) for the records. Assumes nothing.
use Rattle.std.specs.Prelude.{true, List, ◌≡◌, ℕ, ◌≤◌, length}
use borrow.Author.Tests.{eq-eqb, eqb-true}
use Rattle.lock.specs.Judged.{node_rule, rule_node, rule_shared, rule_thread, shared_rule, thread_rule}
use Rattle.number.specs.Tests.{all_hold_lem, each_holds}
use Rattle.lock.specs.declared.Shared.{Shared}
use Rattle.number.specs.Sizes.{most_nodes, most_threads}
use Rattle.rows.specs.Places.{all_good_lem, each_in, each_marked, mark_rule, rule_mark}
use Rattle.rows.specs.Rows.{letter_h, letter_l, letter_n, letter_t}
use Rattle.saved.specs.Saved.{SavedFile, good_by, good_tests, header_in, header_width, node_record}
use Rattle.saved.specs.Saved.{saved_good, size, thread_record, threads_place}

-- ---- the file
module _ (b : List ℕ) where
  abbrev K : ℕ
  K = (header_in b).nodes

  abbrev T : ℕ
  T = (header_in b).threads

  pub good_rule : saved_good b ≡ true → SavedFile b
  unfolding good_by
  good_rule h =
      let (exact, (mark, (range, (nodes, (threads, _))))) = each_holds (good_tests (header_in b) b) h in
      record {
        exact = eqb-true _ _ exact;
        header_mark = mark_rule b 0 letter_l letter_h mark;
        shared = shared_rule (header_in b) range;
        node_mark = λ i l. mark_rule b _ letter_l letter_n (each_marked (node_record K) header_width K b nodes i l);
        node = λ i l. node_rule K _ (each_in (node_record K) header_width K b nodes i l);
        thread_mark = λ i l. mark_rule b _ letter_l letter_t (each_marked (thread_record K) (threads_place K) T b threads i l);
        thread = λ i l. thread_rule K _ (each_in (thread_record K) (threads_place K) T b threads i l);
      }

  pub rule_good : SavedFile b → saved_good b ≡ true
  unfolding good_by
  rule_good f =
      let exact = eq-eqb _ _ f.exact in
      let mark = rule_mark b 0 letter_l letter_h f.header_mark in
      let range = rule_shared (header_in b) f.shared in
      let nodes =
      all_good_lem (node_record K) header_width K b (λ i l. rule_mark b _ letter_l letter_n (f.node_mark i l)) (λ i l. rule_node K _ (f.node i l)) in
      let threads =
      all_good_lem (thread_record K) (threads_place K) T b (λ i l. rule_mark b _ letter_l letter_t (f.thread_mark i l)) (λ i l. rule_thread K _ (f.thread i l)) in
      all_hold_lem (good_tests (header_in b) b) (exact, (mark, (range, (nodes, (threads, tt)))))

-- What the header of a good file asks for is there.
pub record Fits (sh : Shared) (b : List ℕ) : Type 0 where
  pub exact : length b ≡ size sh.threads sh.nodes
  pub nodes : sh.nodes ≤ most_nodes
  pub threads : sh.threads ≤ most_threads

pub header_fits : (sh : Shared) (b : List ℕ) → sh ≡ header_in b → saved_good b ≡ true → Fits sh b
header_fits sh b e good =
    let f = good_rule b good in
    rw e (record { exact = f.exact; nodes = f.shared.nodes.to; threads = f.shared.threads.to })
