-- A line's fields one after the other, how long they are, and bytes that are stored only where they are to be written. By induction over the fields. How the
-- lines of a row of events go on is in proofs/EventLines. Assumes nothing.
use Rattle.std.specs.Prelude.{Bool, List, [], ◌∷◌, ◌++◌, ◌≡◌, ℕ, suc, ◌+◌, ◌*◌, ◌≤◌, ◌<◌, ltb, drop, get_or, replicate, take}
use Rattle.std.proofs.Math.Bool.{cond, false, true}
use Rattle.std.proofs.Common.{append_assoc, append-nil, ap, sym, ◌∙◌, zero-add, add-one, arith, length-append, length-drop, drop-cons, le-ltb, lt-ltb, ltb-false, ltb-true}
use Rattle.std.proofs.Math.Path.{refl}
use Rattle.std.proofs.Math.ListN.{length}
use Rattle.std.proofs.lemmas.List.{length-replicate}
use Rattle.std.proofs.Math.Seq.{length-sets, take-append_seam}
use Rattle.std.proofs.lemmas.List.Edits.{sets}
use Rattle.rows.specs.Stored.{sets_append, sets_over}
use Rattle.text.specs.Decimal.{decimal}
use Rattle.text.specs.Inner.{line_room, placed}
use Rattle.text.specs.Proof.Digits.{decimal_within}
use Rattle.text.specs.Text.{line_end, numbers, space}

-- ---- the fields of a line

-- a number and the byte behind it: a space where more numbers follow, and else a line end
abbrev pub field : ℕ → Bool → List ℕ
field n more = decimal n ++ cond more space line_end ∷ []

pub numbers_none : numbers [] ≡ []
unfolding numbers
numbers_none = refl

-- the first field of a line, and the others
pub numbers_cons : (n : ℕ) (rest : List ℕ) → numbers (n ∷ rest) ≡ field n (ltb 0 (length rest)) ++ numbers rest
unfolding numbers
numbers_cons n [] = sym (append-nil (decimal n ++ line_end ∷ []))
numbers_cons n (m ∷ ms) =
    rw (lt-ltb 0 (length (m ∷ ms)) (omega arith)) (sym (append_assoc (decimal n) (space ∷ []) (numbers (m ∷ ms))))

-- more than none lie behind the first j exactly if there are more than j
more_behind : (j : ℕ) (ns : List ℕ) → ltb 0 (length (drop j ns)) ≡ ltb j (length ns)
more_behind j ns = go (ltb j (length ns)) refl
  where
    go : (t : Bool) → ltb j (length ns) ≡ t → ltb 0 (length (drop j ns)) ≡ t
    go true e = lt-ltb 0 (length (drop j ns)) (omega (arith, ltb-true j (length ns) e, length-drop j ns))
    go false e = le-ltb 0 (length (drop j ns)) (omega (arith, ltb-false j (length ns) e, length-drop j ns))

-- Field i of a line with the byte behind it, and the fields behind that.
pub numbers_from : (ns : List ℕ) (i x : ℕ) → i < length ns → x ≡ cond (ltb (i + 1) (length ns)) space line_end
    → numbers (drop i ns) ≡ (decimal (get_or ns i 0) ++ x ∷ []) ++ numbers (drop (i + 1) ns)
numbers_from ns i x h e =
    rw (e, ← more_behind (i + 1) ns, add-one i)
    (ap numbers (drop-cons ns i 0 h) ∙ numbers_cons (get_or ns i 0) (drop (suc i) ns))

-- A field has at most ten digits and the byte behind them, and a line as many fields as numbers.
pub numbers_within : (ns : List ℕ) → length (numbers ns) ≤ 11 * length ns
numbers_within [] = rw numbers_none (omega arith)
numbers_within (n ∷ ns) =
    rw (numbers_cons n ns)
    (simp length-append (omega (arith, decimal_within n, numbers_within ns)))

-- So they fit where there is room for so many.
pub numbers_fit : (at : ℕ) (ns : List ℕ) (room : ℕ) → at + 11 * length ns ≤ room → at + length (numbers ns) ≤ room
numbers_fit at ns room h = omega (arith, numbers_within ns)

-- ---- bytes that are stored only where they are to be written
module _ (write : Bool) (out : List ℕ) (at : ℕ) where
  pub placed_none : placed write out at [] ≡ out
  unfolding placed
  placed_none = go write
    where
      go : (t : Bool) → cond t out out ≡ out
      go true = refl
      go false = refl

  -- Two lists one behind the other.
  pub placed_append : (p q : List ℕ) → placed write out at (p ++ q) ≡ placed write (placed write out at p) (at + length p) q
  unfolding placed
  placed_append p q = go write
    where
      go : (t : Bool) → cond t (sets out at (p ++ q)) out ≡ cond t (sets (cond t (sets out at p) out) (at + length p) q) (cond t (sets out at p) out)
      go true = sets_append out at p q
      go false = refl

  pub placed_length : (p : List ℕ) → length (placed write out at p) ≡ length out
  unfolding placed
  placed_length p = go write
    where
      go : (t : Bool) → length (cond t (sets out at p) out) ≡ length out
      go true = length-sets out at p
      go false = refl

-- A line that is stored in an array with room for any line: a word at its start, and behind the word numbers that are these.
pub made : (word ns : List ℕ) {bytes first ns' : List ℕ} {size : ℕ} → length word + 11 * length ns ≤ line_room → first ≡ sets (replicate line_room 0) 0 word
    → size ≡ length word + length (numbers ns) → bytes ≡ sets first (length word) (numbers ns) → ns ≡ ns' → take size bytes ≡ word ++ numbers ns'
made word ns {bytes} fits begun long stored same =
    let room : List ℕ = replicate line_room 0 in
    let full : length room ≡ line_room = length-replicate {A = ℕ} line_room 0 in
    let whole : List ℕ = word ++ numbers ns in
    let within : length whole ≤ line_room = omega (arith, length-append word (numbers ns), numbers_within ns) in
    let is : bytes ≡ sets room 0 whole =
    stored
    ∙ ap (λ (o : List ℕ). sets o (length word) (numbers ns)) begun
    ∙ ap (λ (n : ℕ). sets (sets room 0 word) n (numbers ns)) (sym (zero-add (length word)))
    ∙ sym (sets_append room 0 word (numbers ns)) in
    rw (← same, long ∙ sym (length-append word (numbers ns)), is, sets_over whole room (omega arith)) (take-append_seam whole (drop (length whole) room))
