-- What the call gives: in which case its number is 2, 4 or 0, and the parts of the text that make the whole. Rests on the laws of stores (crate `rows`).
-- Assumes nothing.
use Rattle.std.specs.Prelude.{Bool, cond, false, true, ◌≢◌, ◌↔◌, ◌≡◌, refl, eqb, ltb, drop, take}
use mathlib.Core.List.{List, ◌++◌}
use Rattle.std.proofs.Math.Path.{ap, sym}
use Rattle.std.proofs.Common.{◌∙◌, zero-add, arith}
use Prim.Native.Nat.{ℕ, ◌+◌, ◌≤◌, ◌<◌}
use Rattle.std.proofs.Math.ListN.{length, length-append}
use Rattle.std.proofs.Math.Seq.{drop-append_seam, sets, take-append_seam}
use borrow.Author.Tests.{le-ltb, lt-ltb, ltb-false, ltb-true, ne_eqb, not-false}
use Rattle.number.specs.First.{First}
use Rattle.number.specs.FirstThat.{judges_rule, judges_short, none_holds, number_exactly}
use Rattle.number.specs.Refused.{bad_schedule, done, too_short}
use Rattle.rows.specs.Rows.{over}
use Rattle.rows.specs.Stored.{sets_append, sets_over}
use Rattle.schedule.specs.Schedule.{GoodSchedule, good}
use Rattle.schedule.specs.Theorems.{good_schedule}
use Rattle.text.specs.Inner.{placed}
use Rattle.text.specs.Text.{heading, last_of, lines_of, printed, refused_text, text, text_bytes, text_conditions, text_number, text_of}
use Rattle.text.specs.Text.{text_refusals, written}

module _ (b : List ℕ) where
  -- The text is as long as its heading, the lines of its events and its last line.
  pub text_length : length (text_of b) ≡ length heading + length (lines_of b) + length (last_of b)
  unfolding text_of
  text_length =
      length-append (heading ++ lines_of b) (last_of b) ∙ ap (λ (n : ℕ). n + length (last_of b)) (length-append heading (lines_of b))

  -- The three, stored one behind the other, are the text.
  pub text_stored : (out : List ℕ) → length (text_of b) ≤ length out
      → placed true (placed true (sets out 0 heading) (length heading) (lines_of b)) (length heading + length (lines_of b)) (last_of b)
      ≡ over (text_of b) out
  unfolding placed text_of
  text_stored out h =
      ap (λ (n : ℕ). sets (sets (sets out 0 heading) n (lines_of b)) (length heading + length (lines_of b)) (last_of b)) (sym (zero-add (length heading)))
      ∙ ap (λ (o : List ℕ). sets o (length heading + length (lines_of b)) (last_of b)) (sym (sets_append out 0 heading (lines_of b)))
      ∙ ap (λ (n : ℕ). sets (sets out 0 (heading ++ lines_of b)) n (last_of b))
      (sym (zero-add (length (heading ++ lines_of b)) ∙ length-append heading (lines_of b)))
      ∙ sym (sets_append out 0 (heading ++ lines_of b) (last_of b))
      ∙ sets_over (heading ++ lines_of b ++ last_of b) out h

  -- ---- the number
  pub number_bad : (room : ℕ) → good b ≡ false → text_number b room ≡ bad_schedule
  unfolding text_number
  number_bad room h = rw h

  pub number_short : (room : ℕ) → good b ≡ true → room < length (text_of b) → text_number b room ≡ too_short
  unfolding text_number
  number_short room h l = rw (h, lt-ltb room (length (text_of b)) l)

  pub number_done : (room : ℕ) → good b ≡ true → length (text_of b) ≤ room → text_number b room ≡ done
  unfolding text_number
  number_done room h l = rw (h, le-ltb room (length (text_of b)) l)

  -- ---- what goes with it
  module _ (out : List ℕ) where
    pub bad : good b ≡ false → (text b out ≡ written bad_schedule 0) × (text_bytes b out ≡ out)
    unfolding text text_bytes
    bad h = rw (number_bad (length out) h) (refl, refl)

    pub short : good b ≡ true → length out < length (text_of b) → (text b out ≡ written too_short 0) × (text_bytes b out ≡ out)
    unfolding text text_bytes
    short h l = rw (number_short (length out) h l) (refl, refl)

    pub fits : good b ≡ true → length (text_of b) ≤ length out
        → (text b out ≡ written done (length (text_of b))) × (text_bytes b out ≡ over (text_of b) out)
    unfolding text text_bytes
    fits h l = rw (number_done (length out) h l) (refl, refl)

    -- ---- so, by cases: bad, too short, or neither
    by_number : {P : Type 0} → (good b ≡ false → P) → (good b ≡ true → length out < length (text_of b) → P)
        → (good b ≡ true → length (text_of b) ≤ length out → P) → P
    by_number {P} is-bad is-short is-done = go (good b) refl
      where
        room : good b ≡ true → (t : Bool) → ltb (length out) (length (text_of b)) ≡ t → P
        room h true e = is-short h (ltb-true (length out) (length (text_of b)) e)
        room h false e = is-done h (ltb-false (length out) (length (text_of b)) e)

        go : (t : Bool) → good b ≡ t → P
        go true e = room e (ltb (length out) (length (text_of b))) refl
        go false e = is-bad e

    -- The length that is given is at most the buffer's.
    pub within : (text b out).size ≤ length out
    within =
        by_number (λ h. rw (bad h).0 (omega arith)) (λ h l. rw (short h l).0 (omega arith)) (λ h l. rw (fits h l).0 l)

    pub refused : (text b out).number ≢ done → ((text b out).size ≡ 0) × (text_bytes b out ≡ out)
    unfolding text text_bytes
    refused off = rw (ne_eqb _ _ off) (refl, refl)

    pub accepted : text_number b (length out) ≡ done → let n = length (text_of b) in
        (text b out ≡ written done n) × (take n (text_bytes b out) ≡ text_of b) × (drop n (text_bytes b out) ≡ drop n out)
    unfolding text text_bytes
    accepted h =
        let n : ℕ = length (text_of b) in
        rw h (refl, take-append_seam (text_of b) (drop n out), drop-append_seam (text_of b) (drop n out))

    -- What is written of the buffer, or in place of it, is what is to be printed, if a good schedule's text fits.
    pub prints : (good b ≡ true → length (text_of b) ≤ length out)
        → cond (eqb (text b out).number done) (take (text b out).size (text_bytes b out)) refused_text ≡ printed b
    unfolding printed
    prints room =
        by_number
        (λ h. rw ((bad h).0, h))
        (λ h l. absurd (omega (arith, room h, l)))
        (λ h l. rw ((fits h l).0, (fits h l).1, h) (take-append_seam (text_of b) (drop (length (text_of b)) out)))

  module _ (room : ℕ) where
    pub exactly : (m : ℕ) → (text_number b room ≡ m) ↔ First (text_conditions b room) m
    unfolding text_number
    exactly =
        number_exactly (text_refusals b room) (text_conditions b room)
        (judges_rule bad_schedule (good_schedule b), λ j2. (judges_short room (length (text_of b)), λ j4. tt))

    pub done_exactly : (text_number b room ≡ done) ↔ (GoodSchedule b × (length (text_of b) ≤ room))
    unfolding text_number
    done_exactly = (to, λ h. number_done room ((good_schedule b).1 h.0) h.1)
      where
        to : text_number b room ≡ done → GoodSchedule b × (length (text_of b) ≤ room)
        to h =
            let off = none_holds (text_refusals b room) (omega arith) h in
            ((good_schedule b).0 (not-false _ off.0), ltb-false _ _ off.1.0)
