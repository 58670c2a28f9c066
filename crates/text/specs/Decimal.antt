-- Numbers and words as printed: decimal digits and ASCII letters. Theorems.antt says that the digits are those that everybody writes: they are read
-- back as the number, and none of them stands in front without need. Assumes nothing.
use Rattle.std.specs.Prelude.{cond, List, [], ◌∷◌, ◌++◌, ℕ, zero, suc, ◌+◌, ◌-◌, ◌*◌, ◌/◌, ◌%◌, ltb}
use Prim.Native.Char.{code}
use Prim.Native.String.{String, char_at, len}
use Rattle.lock.specs.Valid.{Between}

-- ---- words

-- the codes of so many letters of a word, from a place on
unfoldable pub letters_from : ℕ → ℕ → String → List ℕ
letters_from zero place word = []
letters_from (suc left) place word = code (char_at word place) ∷ letters_from left (suc place) word

-- the ASCII codes of a word's letters
abbrev pub letters : String → List ℕ
letters word = letters_from (len word) 0 word

-- ---- numbers

-- the ASCII code of a digit, `0` to `9`
abbrev pub digit : ℕ → ℕ
digit d = 48 + d

-- n in decimal digits, of at most `most` of them: below ten its one digit, else the digits of n / 10 and then that of n % 10
unfoldable pub decimal_to : ℕ → ℕ → List ℕ
decimal_to zero n = []
decimal_to (suc most) n = cond (ltb n 10) (digit n ∷ []) (decimal_to most (n / 10) ++ digit (n % 10) ∷ [])

-- n in decimal digits; every number that is printed is below 2^32, and has at most ten
unfoldable pub decimal : ℕ → List ℕ
decimal n = decimal_to 10 n

-- what digits say in base ten, from the left: `said` is what those before them say
unfoldable pub value_from : ℕ → List ℕ → ℕ
value_from said [] = said
value_from said (d ∷ ds) = value_from (said * 10 + (d - 48)) ds

-- each of them is a digit, `0` to `9`
abbrev pub EachDigit : List ℕ → Type 0
EachDigit [] = Unit {0}
EachDigit (d ∷ ds) = Between (digit 0) d (digit 9) × EachDigit ds
