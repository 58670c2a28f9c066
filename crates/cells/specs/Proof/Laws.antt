-- Bytes that hold a state: what stands in its header, in the record of a node and in that of a thread, and what a store there leaves. One law for each
-- inner function. Assumes nothing.
use mathlib.Core.List.{List, [], ◌∷◌, ◌++◌, append-nil}
use Rattle.std.specs.Prelude.{◌≡◌, ℕ, ◌+◌, ◌*◌, ◌^◌, ◌≤◌, ◌<◌, get_or, length, set}
use Rattle.std.proofs.Math.Path.{ap, refl, sym}
use Rattle.std.proofs.Common.{◌∙◌, arith, length-append}
use Rattle.std.proofs.Math.ListN.{get_or-append}
use Rattle.std.proofs.lemmas.List.Edits.{sets}
use Rattle.lock.specs.Laws.{length_set_nth}
use Rattle.lock.specs.State.{◌⟨node◌≔◌⟩, ◌⟨shared≔◌⟩, ◌⟨slot≔◌⟩, ◌⟨thread◌≔◌⟩, node_at, thread_at, zero_node, zero_thread}
use Rattle.lock.specs.declared.Shared.{Shared}
use Rattle.lock.specs.declared.State.{State}
use Rattle.lock.specs.declared.Thread.{Thread}
use Rattle.number.specs.Numbers.{node, place}
use Rattle.number.specs.declared.NodeNo.{NodeNo}
use Rattle.number.specs.declared.Place.{Place}
use Rattle.number.specs.declared.ThreadNo.{ThreadNo}
use Rattle.rows.specs.Loops.{length_laid_front}
use Rattle.saved.specs.Proof.Records.{four_read, node_lawful, thread_lawful}
use Rattle.saved.specs.Saved.{bytes_of, four_at, four_bytes, header_bytes, header_width, node_bytes, node_record, node_width, nodes_bytes, thread_bytes, thread_record, thread_width}
use Rattle.saved.specs.Saved.{threads_bytes, threads_place}
use Rattle.cells.specs.Cells.{Fits, HasNode, HasThread, Held, Leaves, Shows, node_place, nodes_in, thread_place, threads_in}
use Rattle.cells.specs.Inner.{ShowsAs, four_of, node_with, shared_with, shared_with_four, thread_with}
use Rattle.cells.specs.Proof.Inside.{Stands, before_stores, each, in_table}

-- ---- the T and K of bytes that hold a state are the state's
module _ (b : List ℕ) (s : State) (held : Held b s) where
  pub threads_same : threads_in b ≡ s.shared.threads
  unfolding bytes_of
  threads_same = ap threads_in held.whole

  pub nodes_same : nodes_in b ≡ s.shared.nodes
  unfolding bytes_of
  nodes_same = ap nodes_in held.whole

-- ---- what is shown is shown wrapped too
wrapped : {A : Type 0} (wrap : ℕ → A) {b : List ℕ} {x : ℕ} {f : State → ℕ} → Shows b x f → ShowsAs wrap b x f
wrapped wrap shows = (shows, λ s held. ap wrap (shows s held))

-- ---- a store leaves T and K, which stand before it
leaves : (b : List ℕ) (p : ℕ) (vs : List ℕ) {f : State → State} → 3 < p → ((s : State) → Held b s → Held (sets b p vs) (f s)) → Leaves b (sets b p vs) f
leaves b p vs h holds = record { threads = before_stores b p vs 2 (omega arith); nodes = before_stores b p vs 3 (omega arith); holds = holds }

-- ---- a node
module _ (b : List ℕ) (k : NodeNo) (has : HasNode b k) where
  node_stands : (s : State) → Held b s → Stands (node_record s.shared.nodes) b (node_place k) (node_at s k) (λ v. bytes_of (s ⟨node k ≔ v ⟩))
  unfolding bytes_of
  node_stands s held =
      let K = s.shared.nodes in
      in_table (node_record K) (node_lawful K) b (header_bytes s.shared) (threads_bytes s) header_width K s.node k.0 zero_node held.whole refl
      held.nodes has.from (omega (arith, has.to, nodes_same b s held))

  pub node_shows : (j : ℕ) → j < node_width → ShowsAs node b (get_or b (node_place k + j) 0) (λ s. get_or (node_bytes (node_at s k)) j 0)
  node_shows j h = wrapped node (λ s held. (node_stands s held).shows j h)

  pub node_leaves : (j x : ℕ) → 2 ≤ j → j ≤ 3 → Leaves b (set b (node_place k + j) x) (λ s. s ⟨node k ≔ node_with j x (node_at s k) ⟩)
  node_leaves j x h l = leaves b (node_place k + j) (x ∷ []) (omega arith) (λ s held.
      let v = node_at s k in
      let written = each (λ i. node_bytes (node_with i x v) ≡ set (node_bytes v) i x) 1 2 (refl, refl) j h l in
      record {
        whole = (node_stands s held).stores j (x ∷ []) (node_with j x v) (omega arith) written;
        nodes = rw (length_set_nth s.node k.0 (node_with j x v)) held.nodes;
        threads = held.threads;
        fits = held.fits;
      })

-- ---- a thread
module _ (b : List ℕ) (t : ThreadNo) (has : HasThread b t) where
  thread_stands : (s : State) → Held b s
      → Stands (thread_record s.shared.nodes) b (thread_place b t) (thread_at s t) (λ v. bytes_of (s ⟨thread t ≔ v ⟩) ++ [])
  unfolding bytes_of
  thread_stands s held =
      let K = s.shared.nodes in
      let header = header_bytes s.shared in
      let nodes = length_laid_front (node_record K) (node_lawful K) K s.node held.nodes in
      in_table (thread_record K) (thread_lawful K) b (header ++ nodes_bytes s) [] (threads_place (nodes_in b)) s.shared.threads s.thread t.0 zero_thread
      (held.whole ∙ sym (append-nil (bytes_of s))) (length-append header (nodes_bytes s) ∙ omega (arith, nodes, nodes_same b s held)) held.threads
      has.from (omega (arith, has.to, threads_same b s held))

  pub thread_shows : (j : ℕ) → j < thread_width → ShowsAs node b (get_or b (thread_place b t + j) 0) (λ s. get_or (thread_bytes (thread_at s t)) j 0)
  thread_shows j h = wrapped node (λ s held. (thread_stands s held).shows j h)

  thread_leaves_by : (f : Thread → Thread) (j : ℕ) (vs : List ℕ) → j + length vs ≤ thread_width → ((v : Thread) → thread_bytes (f v) ≡ sets (thread_bytes v) j vs)
      → Leaves b (sets b (thread_place b t + j) vs) (λ s. s ⟨thread t ≔ f (thread_at s t) ⟩)
  thread_leaves_by f j vs h written = leaves b (thread_place b t + j) vs (omega arith) (λ s held. record {
    whole = (thread_stands s held).stores j vs (f (thread_at s t)) h (written (thread_at s t)) ∙ append-nil _;
    nodes = held.nodes;
    threads = rw (length_set_nth s.thread t.0 (f (thread_at s t))) held.threads;
    fits = held.fits;
  })

  pub thread_leaves : (j x : ℕ) → 2 ≤ j → j ≤ 6 → Leaves b (set b (thread_place b t + j) x) (λ s. s ⟨thread t ≔ thread_with j x (thread_at s t) ⟩)
  thread_leaves j x h l = thread_leaves_by (thread_with j x) j (x ∷ []) (omega arith) (λ v.
      each (λ i. thread_bytes (thread_with i x v) ≡ set (thread_bytes v) i x) 4 2 (refl, (refl, (refl, (refl, refl)))) j h l)

  pub slot_leaves : (x : Place) → Leaves b (sets b (thread_place b t + 7) (four_bytes x.0)) (λ s. s ⟨thread t ≔ thread_at s t ⟨slot≔ x ⟩ ⟩)
  slot_leaves x = thread_leaves_by (λ v. v ⟨slot≔ x ⟩) 7 (four_bytes x.0) (omega arith) (λ v. refl)

-- ---- the header

module _ (b : List ℕ) where
  pub header_shows : (j : ℕ) → j < header_width → ShowsAs node b (get_or b j 0) (λ s. get_or (header_bytes s.shared) j 0)
  unfolding bytes_of
  header_shows j h = wrapped node (λ s held. rw held.whole (get_or-append (header_bytes s.shared) (nodes_bytes s ++ threads_bytes s) 0 j h))

  pub four_shows : (i : ℕ) → i ≤ 3 → ShowsAs place b (four_at b (7 + 4 * i)) (λ s. four_of i s.shared)
  unfolding bytes_of
  four_shows i h = wrapped place (λ s held.
      let (low, high, entered, used) = held.fits in
      rw held.whole
      (each (λ i. four_at (bytes_of s) (7 + 4 * i) ≡ four_of i s.shared) 3 0
      (four_read _ low, (four_read _ high, (four_read _ entered, four_read _ used))) i (omega arith) h))

  -- bytes stored from p on make the header of s that of sh, which keeps T and K
  abbrev Written : State → ℕ → List ℕ → Shared → Type 0
  Written s p vs sh =
      (sets (bytes_of s) p vs ≡ bytes_of (s ⟨shared≔ sh ⟩)) × (sh.nodes ≡ s.shared.nodes) × (sh.threads ≡ s.shared.threads) × Fits sh

  shared_leaves : (f : Shared → Shared) (p : ℕ) (vs : List ℕ) → 3 < p → ((s : State) → Fits s.shared → Written s p vs (f s.shared))
      → Leaves b (sets b p vs) (λ s. s ⟨shared≔ f s.shared ⟩)
  shared_leaves f p vs h written = leaves b p vs h (λ s held.
      let (whole, nodes, threads, fits) = written s held.fits in
      record { whole = rw held.whole whole; nodes = rw nodes held.nodes; threads = rw threads held.threads; fits = fits })

  pub header_leaves : (j x : ℕ) → 4 ≤ j → j ≤ 6 → Leaves b (set b j x) (λ s. s ⟨shared≔ shared_with j x s.shared ⟩)
  unfolding bytes_of
  header_leaves j x h l = shared_leaves (shared_with j x) j (x ∷ []) (omega arith) (λ s fits.
      each (λ i. Written s i (x ∷ []) (shared_with i x s.shared)) 2 4 ((refl, refl, refl, fits), ((refl, refl, refl, fits), (refl, refl, refl, fits))) j h l)

  pub four_leaves : (i x : ℕ) → i ≤ 3 → x < 2 ^ 32 → Leaves b (sets b (7 + 4 * i) (four_bytes x)) (λ s. s ⟨shared≔ shared_with_four i x s.shared ⟩)
  unfolding bytes_of
  four_leaves i x h small = shared_leaves (shared_with_four i x) (7 + 4 * i) (four_bytes x) (omega arith) (λ s (a, b, c, d).
      each (λ i. Written s (7 + 4 * i) (four_bytes x) (shared_with_four i x s.shared)) 3 0
      ((refl, refl, refl, (small, b, c, d)), ((refl, refl, refl, (a, small, c, d)), ((refl, refl, refl, (a, b, small, d)), (refl, refl, refl, (a, b, c, small)))))
      i (omega arith) h)
