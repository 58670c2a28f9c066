-- A table of 32 places, of which the first n are to pass one test and the others to be zero, against the records that its first n elements are
-- written as: what the table says of them, and the table that is read from them. By induction over the table. Assumes nothing.
use Rattle.std.specs.Prelude.{Bool, true, List, [], ◌∷◌, ◌++◌, ◌≡◌, refl, ℕ, zero, suc, ◌-◌, drop, length, replicate, take}
use Rattle.std.proofs.Common.{ap, sym, ◌∙◌, take-append-drop}
use Rattle.std.proofs.Math.Nat.{sub-zero, suc-sub-suc, zero-sub}
use Rattle.lock.specs.Judged.{Agree}
use Rattle.lock.specs.State.{◌⟨shared≔◌⟩, table_size, zero_node, zero_state, zero_thread}
use Rattle.lock.specs.Valid.{up_to}
use Rattle.lock.specs.declared.Shared.{Shared}
use Rattle.number.specs.Tests.{both_hold, first_holds, second_holds}
use Rattle.rows.specs.Rows.{all_in, values}
use Rattle.saved.specs.Inner.{with_nodes, with_threads}
use Rattle.saved.specs.Saved.{header_width, node_record, state_by, thread_record, threads_place}

-- Past the first n of m zeros are m - n.
drop_zeros : {A : Type 0} (n m : ℕ) (z : A) → drop n (replicate m z) ≡ replicate (m - n) z
drop_zeros zero m z = rw (sub-zero m)
drop_zeros (suc n) zero z = rw (zero-sub (suc n))
drop_zeros (suc n) (suc m) z = rw (suc-sub-suc m n) (drop_zeros n m z)

-- ---- a table of which the first n elements pass `within`, and the others are the zero
module _ {A : Type 0} {within past : A → Bool} {InRange : A → Type 0} {z : A} (agree : Agree within past InRange z) where
  -- its first n elements are in range ..
  pub front_in : (n : ℕ) (xs : List A) → up_to within past n xs ≡ true → all_in within (take n xs) ≡ true
  front_in zero xs h = refl
  front_in (suc n) [] h = refl
  front_in (suc n) (x ∷ xs) h = both_hold (first_holds (within x) _ h) (front_in n xs (second_holds (within x) _ h))

  -- .. and the others are zeros
  all_zeros : (xs : List A) → up_to within past zero xs ≡ true → xs ≡ replicate (length xs) z
  all_zeros [] h = refl
  all_zeros (x ∷ xs) h =
      let here = agree.past_zero x (first_holds (past x) _ h) in
      let later = all_zeros xs (second_holds (past x) _ h) in
      λ i. here i ∷ later i

  past_zeros : (n : ℕ) (xs : List A) → up_to within past n xs ≡ true → drop n xs ≡ replicate (length xs - n) z
  past_zeros zero xs h = rw (sub-zero (length xs)) (all_zeros xs h)
  past_zeros (suc n) [] h = rw (zero-sub (suc n))
  past_zeros (suc n) (x ∷ xs) h = rw (suc-sub-suc (length xs) n) (past_zeros n xs (second_holds (within x) _ h))

  -- So the table is its first n elements and zeros.
  pub front_zeros : (n : ℕ) (xs : List A) → length xs ≡ table_size → up_to within past n xs ≡ true → take n xs ++ replicate (table_size - n) z ≡ xs
  front_zeros n xs l h = ap (λ (r : List A). take n xs ++ r) (rw (← l) (sym (past_zeros n xs h))) ∙ take-append-drop n xs

  zeros_past : (m : ℕ) → up_to within past zero (replicate m z) ≡ true
  zeros_past zero = refl
  zeros_past (suc m) = both_hold (agree.zero_past z refl) (zeros_past m)

  -- A table of elements in range, with zeros past them, passes.
  pub filled_passes : (xs : List A) (m : ℕ) → all_in within xs ≡ true → up_to within past (length xs) (xs ++ replicate m z) ≡ true
  filled_passes [] m h = zeros_past m
  filled_passes (x ∷ xs) m h = both_hold (first_holds (within x) _ h) (filled_passes xs m (second_holds (within x) _ h))

-- ---- what is read

-- The state that b holds is the state with 0 everywhere, given the header's numbers, and then its nodes and its threads.
pub filled : (sh : Shared) (b : List ℕ)
    → with_threads (with_nodes (zero_state ⟨shared≔ sh ⟩) sh.nodes (drop header_width b)) sh.threads (drop (threads_place sh.nodes) b) ≡ state_by sh b
unfolding state_by
filled sh b = λ i. record {
  shared = sh;
  node = values (node_record sh.nodes) sh.nodes (drop header_width b) ++ drop_zeros sh.nodes table_size zero_node i;
  thread = values (thread_record sh.nodes) sh.threads (drop (threads_place sh.nodes) b) ++ drop_zeros sh.threads table_size zero_thread i;
}
