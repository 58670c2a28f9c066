-- The bytes of a fresh state: its header, K times the bytes of the zero node, and T times those of an idle thread. Assumes nothing.
use Rattle.std.specs.Prelude.{true, List, ◌++◌, ◌≡◌, ℕ, ◌+◌, ◌-◌, ◌≤◌, length, replicate, take}
use Rattle.std.proofs.Common.{ap, ◌∙◌, arith}
use Rattle.std.proofs.Math.Path.{sym}
use Rattle.std.proofs.lemmas.List.{replicate-append-replicate}
use Rattle.std.proofs.lemmas.List.Edits.{sets}
use Rattle.lock.specs.Fresh.{fresh_shared, fresh_state, idle, idle_to, in_size}
use Rattle.lock.specs.State.{table_size, zero_node, zero_thread}
use Rattle.lock.specs.Theorems.{fresh_valid}
use Rattle.lock.specs.Valid.{Valid}
use Rattle.lock.specs.declared.Node.{Node}
use Rattle.lock.specs.declared.State.{State}
use Rattle.rows.specs.Loops.{laid_same}
use Rattle.rows.specs.Rows.{laid, over, times}
use Rattle.saved.specs.Proof.Size.{stored_parts}
use Rattle.saved.specs.Saved.{bytes_of, header_bytes, header_width, node_bytes, node_record, nodes_bytes, size, thread_bytes, thread_record}
use Rattle.saved.specs.Saved.{threads_bytes, threads_place}

module _ (T K : ℕ) (inside : in_size T K ≡ true) where
  abbrev s : State
  s = fresh_state T K

  valid : Valid s
  valid = fresh_valid T K inside

  nodes_same : times K (node_bytes zero_node) ≡ nodes_bytes s
  nodes_same =
      let whole : K + (table_size - K) ≡ table_size = omega (arith, valid.shared.nodes.to) in
      let split : replicate K zero_node ++ replicate (table_size - K) zero_node ≡ replicate table_size zero_node =
      replicate-append-replicate K (table_size - K) zero_node ∙ ap (λ (n : ℕ). replicate n zero_node) whole in
      sym (laid_same (node_record K) K zero_node (replicate (table_size - K) zero_node))
      ∙ ap (λ (xs : List Node). laid (node_record K) (take K xs)) split

  threads_same : times T (thread_bytes idle) ≡ threads_bytes s
  unfolding idle_to
  threads_same = sym (laid_same (thread_record K) T idle (replicate (table_size - T) zero_thread))

  -- The three parts, each stored at its place, are the saved fresh state at the start.
  pub stored_fresh : (out : List ℕ) → size T K ≤ length out
      → sets (sets (sets out 0 (header_bytes (fresh_shared T K))) header_width (times K (node_bytes zero_node))) (threads_place K) (times T (thread_bytes idle))
      ≡ over (bytes_of s) out
  stored_fresh out room =
      (λ i. sets (sets (sets out 0 (header_bytes (fresh_shared T K))) header_width (nodes_same i)) (threads_place K) (threads_same i))
      ∙ stored_parts s valid.sized valid.shared.nodes.to valid.shared.threads.to out room
