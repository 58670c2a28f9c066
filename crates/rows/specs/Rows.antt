-- Records of one width, laid end to end. Saved states and schedules are made of them: "Each record begins with a two-byte mark in ASCII." A kind of
-- record says how its values are written, how they are read, and which are in range; everything else is said once, for every kind. Assumes nothing.
use Rattle.std.specs.Prelude.{Bool, true, ◌&&◌, List, [], ◌∷◌, ◌++◌, ◌≡◌, ℕ, zero, suc, ◌+◌, ◌≤◌, ◌<◌, eqb, drop, get_or, length, take}

-- ---- bytes

-- Each element is a byte. (In code the type of a slice says so.)
abbrev pub Bytes : List ℕ → Type 0
Bytes b = (i : ℕ) → get_or b i 0 < 256

-- "written at the start of its buffer, and bytes after it stay": vs, and what of o lies past it
abbrev pub over : List ℕ → List ℕ → List ℕ
over vs o = vs ++ drop (length vs) o

-- n times r, one behind the other
unfoldable pub times : ℕ → List ℕ → List ℕ
times zero r = []
times (suc n) r = r ++ times n r

-- ---- "Each record begins with a two-byte mark in ASCII.": the letters of the marks
abbrev pub letter_l : ℕ
letter_l = 76

abbrev pub letter_h : ℕ
letter_h = 72

abbrev pub letter_n : ℕ
letter_n = 78

abbrev pub letter_t : ℕ
letter_t = 84

abbrev pub letter_s : ℕ
letter_s = 83

abbrev pub letter_e : ℕ
letter_e = 69

-- the mark of these two bytes stands at a place of b
abbrev pub MarkAt : List ℕ → ℕ → ℕ → ℕ → Type 0
MarkAt b place first second = (get_or b place 0 ≡ first) × (get_or b (place + 1) 0 ≡ second)

-- the test that b begins with it
abbrev pub marked : ℕ → ℕ → List ℕ → Bool
marked first second b = eqb (get_or b 0 0) first && eqb (get_or b 1 0) second

-- ---- a kind of record
pub record Kind (A : Type 0) : Type 0 where
  -- how many bytes a record has
  pub width : ℕ
  -- the two bytes of its mark
  pub mark₁ : ℕ
  pub mark₂ : ℕ
  -- the bytes of a record that says x
  pub bytes : A → List ℕ
  -- what the record at the start of a list says
  pub value : List ℕ → A
  -- the ranges that its numbers are held to
  pub in_range : A → Bool

-- What it takes for reading and writing to undo each other: a record has its width and its mark, what was written is read again where it is in
-- range, and what is read from behind a mark is written again.
pub record Lawful {A : Type 0} (kind : Kind A) : Type 0 where
  pub wide : (x : A) → length (kind.bytes x) ≡ kind.width
  pub begins : (x : A) (r : List ℕ) → marked kind.mark₁ kind.mark₂ (kind.bytes x ++ r) ≡ true
  pub reads : (x : A) (r : List ℕ) → kind.in_range x ≡ true → kind.value (kind.bytes x ++ r) ≡ x
  pub writes : (r : List ℕ) → Bytes r → kind.width ≤ length r → marked kind.mark₁ kind.mark₂ r ≡ true
      → kind.bytes (kind.value r) ≡ take kind.width r

-- every element is in range
abbrev pub all_in : {A : Type 0} → (A → Bool) → List A → Bool
all_in in_range [] = true
all_in in_range (x ∷ xs) = in_range x && all_in in_range xs

module _ {A : Type 0} (kind : Kind A) where
  -- the record at the start of b has its mark and is in range
  abbrev pub good : List ℕ → Bool
  good b = marked kind.mark₁ kind.mark₂ b && kind.in_range (kind.value b)

  -- the bytes of the records that say xs, one after the other
  unfoldable pub laid : List A → List ℕ
  laid [] = []
  laid (x ∷ xs) = kind.bytes x ++ laid xs

  -- what the first n records of b say
  unfoldable pub values : ℕ → List ℕ → List A
  values zero b = []
  values (suc n) b = kind.value b ∷ values n (drop kind.width b)

  -- the first n records of b are good
  unfoldable pub all_good : ℕ → List ℕ → Bool
  all_good zero b = true
  all_good (suc n) b = good b && all_good n (drop kind.width b)
