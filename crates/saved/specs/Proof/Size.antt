-- How many bytes a saved state has, and that its three parts, stored one behind the other, are the whole. Assumes nothing.
use Rattle.std.specs.Prelude.{List, ◌++◌, ◌≡◌, ℕ, ◌+◌, ◌*◌, ◌≤◌, length}
use Rattle.std.proofs.Math.Path.{refl}
use Rattle.std.proofs.Common.{◌∙◌, arith}
use Rattle.std.proofs.Math.ListN.{length-append}
use Rattle.std.proofs.lemmas.List.Edits.{sets}
use Rattle.lock.specs.Valid.{Sized}
use Rattle.lock.specs.declared.State.{State}
use Rattle.number.specs.Sizes.{most_nodes, most_threads}
use Rattle.rows.specs.Loops.{length_laid_front}
use Rattle.rows.specs.Rows.{over}
use Rattle.rows.specs.Stored.{sets_append, sets_over}
use Rattle.saved.specs.Proof.Records.{node_lawful, thread_lawful}
use Rattle.saved.specs.Saved.{bytes_of, header_bytes, header_width, node_record, node_width, nodes_bytes, size_of, thread_record, thread_width}
use Rattle.saved.specs.Saved.{threads_bytes, threads_place}

-- three lists, stored one behind the other from the start on
three : (out p q r : List ℕ) (i j : ℕ) → length p ≡ i → i + length q ≡ j → length (p ++ q ++ r) ≤ length out
    → sets (sets (sets out 0 p) i q) j r ≡ over (p ++ q ++ r) out
three out p q r i j a b l =
    let i' : 0 + length p ≡ i = omega arith in
    let j' : 0 + length (p ++ q) ≡ j = omega (arith, length-append p q) in
    rw (← i', ← j', ← sets_append out 0 p q, ← sets_append out 0 (p ++ q) r) (sets_over (p ++ q ++ r) out l)

module _ (s : State) (sized : Sized s) (fewNodes : s.shared.nodes ≤ most_nodes) (fewThreads : s.shared.threads ≤ most_threads) where
  abbrev K : ℕ
  K = s.shared.nodes

  abbrev T : ℕ
  T = s.shared.threads

  abbrev front : List ℕ
  front = header_bytes s.shared

  pub length_nodes : length (nodes_bytes s) ≡ node_width * K
  length_nodes = length_laid_front (node_record K) (node_lawful K) K s.node (omega (arith, sized.nodes))

  length_threads : length (threads_bytes s) ≡ thread_width * T
  length_threads = length_laid_front (thread_record K) (thread_lawful K) T s.thread (omega (arith, sized.threads))

  pub length_bytes : length (bytes_of s) ≡ size_of s
  unfolding bytes_of
  length_bytes =
      length-append (front ++ nodes_bytes s) (threads_bytes s)
      ∙ omega (arith, length-append front (nodes_bytes s), length_nodes, length_threads)

  -- The header, the nodes and the threads, each stored at its place, are the saved state at the start.
  pub stored_parts : (out : List ℕ) → size_of s ≤ length out
      → sets (sets (sets out 0 front) header_width (nodes_bytes s)) (threads_place K) (threads_bytes s) ≡ over (bytes_of s) out
  unfolding bytes_of
  stored_parts out room =
      three out front (nodes_bytes s) (threads_bytes s) header_width (threads_place K) refl (omega (arith, length_nodes)) (rw length_bytes room)
