-- First in, first out: the threads that passed are the first of those that exchanged the tail. For any machine whose threads are in the queue at the lines
-- `first` to `last`, and pass at `section`, which is one of them. `exchanged` and `passed` are the threads that have exchanged and passed so far, in order;
-- place k + 1 was taken by exchange number k, counted from 0. A step exchanges (`order_in`), passes (`order_pass`), leaves (`order_out`), or does none of
-- these (`order_stay`). Assumes nothing.
use Rattle.std.specs.Prelude.{List, [], ◌∷◌, ◌++◌, ◌≢◌, ◌≡◌, ℕ, suc, ◌+◌, ◌≤◌, ◌<◌, get_or, length, take}
use Rattle.std.proofs.Common.{ap, ap₂, sym, ◌∙◌, add-one, arith, length-append, length-take, take-suc}
use Rattle.std.proofs.Math.ListN.{get_or-append}
use Rattle.std.proofs.Math.Seq.{get_or-append_seam}
use Rattle.std.proofs.lemmas.List.{take-append-le}
use Rattle.number.specs.Numbers.{thread}
use Rattle.number.specs.declared.ThreadNo.{ThreadNo}
use Rattle.theory.specs.Demands.{nobody}
use Rattle.theory.specs.Queue.AtLines.{In}
use Rattle.theory.specs.Queue.Functions.{by, upd, upd_other, upd_same}
use Rattle.theory.specs.Queue.Places.{Places, behind_front}
use Rattle.theory.specs.Queue.Seen.{Seen}

-- how exchanges, passages and places go together
pub record Order (first section last : ℕ) (th : ℕ → Seen) (taker : ℕ → ℕ) (low high : ℕ) (exchanged passed : List ThreadNo) : Type 0 where
  -- every exchange took a place, and its thread the place of its number
  pub size : length exchanged + 1 ≡ high
  pub names : (k : ℕ) → k < length exchanged → get_or exchanged k nobody ≡ thread (taker (k + 1))
  -- the passages are the first of the exchanges
  pub first_passed : passed ≡ take (length passed) exchanged
  -- as many have passed as have left, and one more while the thread at the front is past the section
  pub before : (q : ℕ) → In first section (th q).line → (th q).slot ≡ low → length passed + 1 ≡ low
  pub past : (q : ℕ) → In (suc section) last (th q).line → length passed ≡ low
  pub empty : low ≡ high → length passed + 1 ≡ low

module _ {first section last : ℕ} {th : ℕ → Seen} {taker : ℕ → ℕ} {low high : ℕ} {exchanged passed : List ThreadNo}
    (f : Order first section last th taker low high exchanged passed) (p : ℕ) (v : Seen) where
  -- p takes no place, does not pass, and does not leave
  pub order_stay : (In first section v.line → In first section (th p).line) → (In (suc section) last v.line → In (suc section) last (th p).line)
      → v.slot ≡ (th p).slot
      → Order first section last (upd th p v) taker low high exchanged passed
  order_stay g h e = record {
    size = f.size;
    names = f.names;
    first_passed = f.first_passed;
    before = by p (rw (upd_same, e) (λ x. f.before p (g x))) (λ q n. rw upd_other (f.before q));
    past = by p (rw upd_same (λ x. f.past p (h x))) (λ q n. rw upd_other (f.past q));
    empty = f.empty;
  }

  -- p exchanges the tail
  pub order_in : In first section v.line → (In (suc section) last v.line → ⊥) → low ≤ high → v.slot ≡ high
      → Order first section last (upd th p v) (upd taker high p) low (high + 1) (exchanged ++ thread p ∷ []) passed
  order_in g h l e =
      let n : length (exchanged ++ thread p ∷ []) ≡ length exchanged + 1 = length-append exchanged (thread p ∷ []) in
      let m : length passed ≤ length exchanged = omega (arith, ap length f.first_passed ∙ length-take (length passed) exchanged) in
      record {
        size = omega (arith, f.size);
        names = by (length exchanged) (λ x. rw (f.size, upd_same) (get_or-append_seam exchanged (thread p) [] nobody))
            (λ k z x.
            let y : k < length exchanged = omega arith in
            let w : k + 1 ≢ high = omega (arith, f.size) in
            rw (upd_other, get_or-append) (f.names k y));
        first_passed = f.first_passed ∙ sym (take-append-le (length passed) exchanged (thread p ∷ []) m);
        before = by p (rw upd_same (λ x z. f.empty (omega arith))) (λ q z. rw upd_other (f.before q));
        past = by p (rw upd_same (λ x. absurd (h x))) (λ q z. rw upd_other (f.past q));
        empty = λ x. absurd (omega arith);
      }

  -- p, at the front, goes through the section
  pub order_pass : Places first last th taker low high → first ≤ section → section < last → In first section (th p).line → (th p).slot ≡ low
      → In (suc section) last v.line
      → Order first section last (upd th p v) taker low high exchanged (passed ++ thread p ∷ [])
  order_pass u from to g e h =
      let far = behind_front u p e (omega arith) in
      let z = f.before p g e in
      let w = u.place p (omega arith) in
      let l : length passed < length exchanged = omega (arith, f.size) in
      let n : length (passed ++ thread p ∷ []) ≡ suc (length passed) = length-append passed (thread p ∷ []) ∙ add-one (length passed) in
      let y : get_or exchanged (length passed) nobody ≡ thread p = f.names (length passed) l ∙ ap thread (ap taker (z ∙ sym e) ∙ w.mine) in
      record {
        size = f.size;
        names = f.names;
        first_passed = rw (n, take-suc exchanged (length passed) nobody l) (ap₂ (λ (x : List ThreadNo) (y : ThreadNo). x ++ y ∷ []) f.first_passed (sym y));
        before = by p (rw upd_same (λ x z. absurd (omega arith))) (λ q m. rw upd_other (λ x z. absurd (omega (arith, far q m (omega arith)))));
        past = λ q x. omega arith;
        empty = λ x. absurd (omega arith);
      }

  -- p, past the section, leaves; who is past the section is at the front
  pub order_out : Places first last th taker low high → first ≤ section → In (suc section) last (th p).line
      → (In first section v.line → ⊥) → (In (suc section) last v.line → ⊥)
      → ((q : ℕ) → In (suc section) last (th q).line → (th q).slot ≡ low) → Order first section last (upd th p v) taker (low + 1) high exchanged passed
  order_out u from g h k front =
      let z = f.past p g in
      let far = behind_front u p (front p g) (omega arith) in
      record {
        size = f.size;
        names = f.names;
        first_passed = f.first_passed;
        before = λ q x y. omega arith;
        past = by p (rw upd_same (λ x. absurd (k x))) (λ q m. rw upd_other (λ x. absurd (omega (arith, far q m (omega arith), front q x))));
        empty = λ x. omega arith;
      }
