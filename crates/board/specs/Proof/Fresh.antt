-- A saved fresh state: its two tests say what its two conditions say, and what is written is read as the fresh state. Assumes nothing.
use Rattle.std.specs.Prelude.{not, true, List, ◌≢◌, ◌⊎◌, ◌↔◌, ◌≡◌, refl, ℕ, ◌≤◌, drop, length, take}
use Rattle.std.proofs.Common.{true≢false, inl, inr, ⊎_elim, ap, sym, ◌∙◌, arith, drop_at, take_at}
use Rattle.std.proofs.Math.Logic.{by_cases}
use Rattle.std.proofs.Math.Decide.{dec_le}
use borrow.Author.Tests.{eq-eqb, ltb-false, ne_eqb, not-false, not-true}
use Rattle.lock.specs.Fresh.{fresh_state, in_size, opened}
use Rattle.lock.specs.Judged.{rule_size, size_rule}
use Rattle.lock.specs.Theorems.{fresh_valid}
use Rattle.lock.specs.Valid.{Between}
use Rattle.number.specs.First.{First, ◌given-when◌}
use Rattle.number.specs.FirstThat.{AllReflect, Reflects, judges_short, none_holds, number_exactly}
use Rattle.number.specs.Refused.{◌if◌, bad_size, done}
use Rattle.number.specs.Sizes.{most_nodes, most_threads}
use Rattle.rows.specs.Rows.{over}
use Rattle.saved.specs.Saved.{bytes_of, read, size}
use Rattle.saved.specs.Theorems.{read_save, saved_size}
use Rattle.board.specs.Board.{fresh_bytes, fresh_conditions, fresh_number, fresh_refusals}

-- ---- "T or K outside 1 to 32"
between : (least n most : ℕ) → Dec (Between least n most)
between least n most =
    by_cases (dec_le least n)
    (λ from. by_cases (dec_le n most) (λ to. yes (record { from = from; to = to })) (λ off. no (λ b. off b.to)))
    (λ off. no (λ b. off b.from))

module _ (T K : ℕ) where
  judges_size : Reflects (bad_size if not (in_size T K)) (bad_size given-when ((¬ Between 1 T most_threads) ⊎ (¬ Between 1 K most_nodes)))
  judges_size = record {
    holds = λ e. (by_cases (between 1 T most_threads) (λ t. inr (λ k. true≢false (sym (rule_size T K t k) ∙ not-true _ e))) inl, refl);
    fails = λ e. let inside = size_rule T K (not-false _ e) in ⊎_elim (λ off. off inside.0) (λ off. off inside.1);
  }

  module _ (out : List ℕ) where
    judges : AllReflect (fresh_refusals T K out) (fresh_conditions T K out)
    judges = (judges_size, λ j3. (judges_short (length out) (size T K), λ j4. tt))

    pub exactly : (m : ℕ) → (fresh_number T K out ≡ m) ↔ First (fresh_conditions T K out) m
    unfolding fresh_number
    exactly = number_exactly (fresh_refusals T K out) (fresh_conditions T K out) judges

    -- ---- what is written
    pub of_accepted : fresh_number T K out ≡ done → fresh_bytes T K out ≡ over (bytes_of (fresh_state T K)) out
    unfolding fresh_bytes
    of_accepted h = rw (eq-eqb _ _ h)

    pub of_refused : fresh_number T K out ≢ done → fresh_bytes T K out ≡ out
    unfolding fresh_bytes
    of_refused h = rw (ne_eqb _ _ h)

    -- an accepted call has T and K of 1 to 32, and room
    pub accepted : fresh_number T K out ≡ done → (in_size T K ≡ true) × (size T K ≤ length out)
    unfolding fresh_number
    accepted h =
        let off = none_holds (fresh_refusals T K out) (omega arith) h in
        (not-false _ off.0, ltb-false _ _ off.1.0)

    -- so what is written is read as the fresh state
    pub reads_fresh : fresh_number T K out ≡ done
        → (read (take (size T K) (fresh_bytes T K out)) ≡ opened done (fresh_state T K)) × (drop (size T K) (fresh_bytes T K out) ≡ drop (size T K) out)
    reads_fresh h =
        let v = fresh_valid T K (accepted h).0 in
        let bytes = bytes_of (fresh_state T K) in
        let l : length bytes ≡ size T K = (saved_size (fresh_state T K) v).0 in
        rw (of_accepted h, l) (ap read (take_at bytes _ _ l) ∙ read_save (fresh_state T K) v, drop_at bytes _ _ l)
