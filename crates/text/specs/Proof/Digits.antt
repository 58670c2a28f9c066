-- Decimal digits: how a number's digits go on from those of its tenth, what they say, and that none stands in front without need. By induction over how
-- many digits are allowed. Assumes nothing.
use Rattle.std.specs.Prelude.{Bool, false, true, List, [], ◌∷◌, ◌++◌, ◌≡◌, refl, ℕ, zero, suc, ◌+◌, ◌-◌, ◌*◌, ◌/◌, ◌%◌, ◌^◌, ◌≤◌, ◌<◌, ltb, get_or, length}
use Rattle.std.proofs.Common.{ap, sym, ◌∙◌, arith, length-append, le-ltb, lt-ltb, ltb-false, ltb-true}
use Rattle.std.proofs.Math.Nat.{pow-succ'}
use Rattle.std.proofs.Math.ListN.{get_or-append}
use Rattle.text.specs.Decimal.{EachDigit, decimal, decimal_to, digit, value_from}

-- the tenth of a number below a power of ten is below the power before it
tenth : (k n : ℕ) → n < 10 ^ suc k → n / 10 < 10 ^ k
tenth k n h = omega (arith, pow-succ' 10 k)

-- ---- how digits are made

below_ten : (k n : ℕ) → n < 10 → decimal_to (suc k) n ≡ digit n ∷ []
unfolding decimal_to
below_ten k n h = rw (lt-ltb n 10 h)

from_ten : (k n : ℕ) → 10 ≤ n → decimal_to (suc k) n ≡ decimal_to k (n / 10) ++ digit (n % 10) ∷ []
unfolding decimal_to
from_ten k n h = rw (le-ltb n 10 h)

-- two ways: below ten, and from ten on
by_size : {P : Type 0} (n : ℕ) → (n < 10 → P) → (10 ≤ n → P) → P
by_size {P} n small large = go (ltb n 10) refl
  where
    go : (t : Bool) → ltb n 10 ≡ t → P
    go true e = small (ltb-true n 10 e)
    go false e = large (ltb-false n 10 e)

-- to allow one digit more than there are changes nothing
more_allowed : (k n : ℕ) → n < 10 ^ suc k → decimal_to (suc k) n ≡ decimal_to (suc (suc k)) n
more_allowed zero n h = below_ten zero n (omega arith) ∙ sym (below_ten 1 n (omega arith))
more_allowed (suc k) n h =
    by_size n (λ small. below_ten (suc k) n small ∙ sym (below_ten (suc (suc k)) n small))
    (λ large.
    from_ten (suc k) n large
    ∙ ap (λ ds. ds ++ digit (n % 10) ∷ []) (more_allowed k (n / 10) (tenth (suc k) n h))
    ∙ sym (from_ten (suc (suc k)) n large))

-- Below ten a number is its one digit ..
pub decimal_one : (n : ℕ) → n < 10 → decimal n ≡ digit n ∷ []
unfolding decimal
decimal_one n h = below_ten 9 n h

-- .. and else the digits of its tenth, and then its last.
pub decimal_more : (n : ℕ) → 10 ≤ n → n < 2 ^ 32 → decimal n ≡ decimal (n / 10) ++ digit (n % 10) ∷ []
unfolding decimal
decimal_more n large h =
    from_ten 9 n large
    ∙ ap (λ ds. ds ++ digit (n % 10) ∷ []) (more_allowed 8 (n / 10) (omega arith))

pub longer : (n : ℕ) → 10 ≤ n → n < 2 ^ 32 → length (decimal n) ≡ length (decimal (n / 10)) + 1
longer n large h = ap length (decimal_more n large h) ∙ length-append (decimal (n / 10)) (digit (n % 10) ∷ [])

-- ---- how many there are

-- at most as many as are allowed ..
within_allowed : (k n : ℕ) → length (decimal_to k n) ≤ k
unfolding decimal_to
within_allowed zero n = omega arith
within_allowed (suc k) n =
    by_size n (λ small. rw (below_ten k n small) (omega arith))
    (λ large. rw (from_ten k n large) (simp length-append (omega (arith, within_allowed k (n / 10)))))

pub decimal_within : (n : ℕ) → length (decimal n) ≤ 10
unfolding decimal
decimal_within n = within_allowed 10 n

-- .. and no more than the number asks for
as_asked : (allowed k n : ℕ) → n < 10 ^ suc k → length (decimal_to allowed n) ≤ suc k
unfolding decimal_to
as_asked zero k n h = omega arith
as_asked (suc allowed) zero n h = rw (below_ten allowed n (omega arith)) (omega arith)
as_asked (suc allowed) (suc k) n h =
    by_size n (λ small. rw (below_ten allowed n small) (omega arith))
    (λ large. rw (from_ten allowed n large) (simp length-append (omega (arith, as_asked allowed k (n / 10) (tenth (suc k) n h)))))

pub decimal_short : (k n : ℕ) → n < 10 ^ suc k → length (decimal n) ≤ suc k
unfolding decimal
decimal_short k n h = as_asked 10 k n h

-- ---- what they say

value_append : (said : ℕ) (ds es : List ℕ) → value_from said (ds ++ es) ≡ value_from (value_from said ds) es
unfolding value_from
value_append said [] es = refl
value_append said (d ∷ ds) es = value_append (said * 10 + (d - 48)) ds es

value_to : (k n : ℕ) → n < 10 ^ k → value_from 0 (decimal_to k n) ≡ n
unfolding decimal_to value_from
value_to zero n h = omega arith
value_to (suc k) n h =
    by_size n (λ small. rw (below_ten k n small) (omega arith))
    (λ large.
    rw (from_ten k n large, value_append 0 (decimal_to k (n / 10)) (digit (n % 10) ∷ []), value_to k (n / 10) (tenth k n h)) (omega arith))

pub decimal_value : (n : ℕ) → n < 2 ^ 32 → value_from 0 (decimal n) ≡ n
unfolding decimal
decimal_value n h = value_to 10 n (omega arith)

-- ---- each is a digit

each_append : (ds es : List ℕ) → EachDigit ds → EachDigit es → EachDigit (ds ++ es)
each_append [] es p q = q
each_append (d ∷ ds) es p q = (p.0, each_append ds es p.1 q)

each_to : (k n : ℕ) → EachDigit (decimal_to k n)
unfolding decimal_to
each_to zero n = tt
each_to (suc k) n =
    by_size n (λ small. rw (below_ten k n small) (omega arith, tt))
    (λ large. rw (from_ten k n large) (each_append (decimal_to k (n / 10)) _ (each_to k (n / 10)) (omega arith, tt)))

pub decimal_digits : (n : ℕ) → EachDigit (decimal n)
unfolding decimal
decimal_digits n = each_to 10 n

-- ---- there is one, and no zero stands in front

some_digit : (k n : ℕ) → 0 < length (decimal_to (suc k) n)
some_digit k n =
    by_size n (λ small. rw (below_ten k n small) (omega arith))
    (λ large. rw (from_ten k n large) (simp length-append (omega arith)))

pub decimal_some : (n : ℕ) → 0 < length (decimal n)
unfolding decimal
decimal_some n = some_digit 9 n

first_to : (k n : ℕ) → n < 10 ^ suc k → get_or (decimal_to (suc k) n) 0 0 ≡ digit 0 → n ≡ 0
first_to zero n h e = let small : n < 10 = omega arith in omega (arith, rw (below_ten zero n small) at e)
first_to (suc k) n h e =
    by_size n (λ small. omega (arith, rw (below_ten (suc k) n small) at e))
    (λ large.
    let front : get_or (decimal_to (suc k) (n / 10) ++ digit (n % 10) ∷ []) 0 0 ≡ digit 0 = rw (from_ten (suc k) n large) at e in
    let same = get_or-append (decimal_to (suc k) (n / 10)) (digit (n % 10) ∷ []) 0 0 (some_digit k (n / 10)) in
    omega (arith, first_to k (n / 10) (tenth (suc k) n h) (sym same ∙ front)))

pub decimal_first : (n : ℕ) → n < 2 ^ 32 → get_or (decimal n) 0 0 ≡ digit 0 → n ≡ 0
unfolding decimal
decimal_first n h e = first_to 9 n (omega arith) e
