-- Several tests as one, and what follows for each: a rule of document 01 is a list of tests, all of which hold. By cases and by recursion over
-- the tests. Assumes nothing.
use Rattle.std.specs.Prelude.{Bool, false, true, ◌&&◌, ◌||◌, List, [], ◌∷◌, ◌≡◌, refl}

-- ---- two tests

-- Where both hold, the first does.
pub first_holds : (a b : Bool) → (a && b) ≡ true → a ≡ true
first_holds true b h = refl
first_holds false b h = h

-- Where both hold, the second does.
pub second_holds : (a b : Bool) → (a && b) ≡ true → b ≡ true
second_holds true b h = h
second_holds false b h = cc

-- Where each holds, both do.
pub both_hold : {a b : Bool} → a ≡ true → b ≡ true → (a && b) ≡ true
both_hold {a} {b} p q = rw (p, q)

-- Where neither of two tests holds, both fail.
pub neither_holds : (a b : Bool) → (a || b) ≡ false → (a ≡ false) × (b ≡ false)
neither_holds true b h = (h, cc)
neither_holds false b h = (refl, h)

-- Where one of two tests holds and neither can, nothing is so.
pub either_holds : (a b : Bool) → (a || b) ≡ true → (a ≡ true → ⊥) → (b ≡ true → ⊥) → ⊥
either_holds true b h f g = f refl
either_holds false b h f g = g h

-- A test that cannot hold fails.
pub cannot_hold : (a : Bool) → (a ≡ true → ⊥) → a ≡ false
cannot_hold true h = absurd (h refl)
cannot_hold false h = refl

-- ---- a list of tests

-- all of the tests hold: a && b && ..
abbrev pub and_all : Bool → List Bool → Bool
and_all a [] = a
and_all a (b ∷ bs) = and_all (a && b) bs

abbrev pub all_hold : List Bool → Bool
all_hold [] = true
all_hold (b ∷ bs) = and_all b bs

-- each test of the list holds
abbrev pub EachHolds : List Bool → Type 0
EachHolds [] = Unit {0}
EachHolds (b ∷ bs) = (b ≡ true) × EachHolds bs

-- `and_all` gathers the tests from the left, so both laws carry the test that is gathered so far
each_after : (a : Bool) (bs : List Bool) → and_all a bs ≡ true → (a ≡ true) × EachHolds bs
each_after a [] h = (h, tt)
each_after a (b ∷ bs) h =
    let r = each_after (a && b) bs h in
    (first_holds a b r.0, (second_holds a b r.0, r.1))

all_after : (a : Bool) (bs : List Bool) → a ≡ true → EachHolds bs → and_all a bs ≡ true
all_after a [] h k = h
all_after a (b ∷ bs) h k = all_after (a && b) bs (both_hold h k.0) k.1

-- Where all of the tests hold, each does.
pub each_holds : (bs : List Bool) → all_hold bs ≡ true → EachHolds bs
each_holds [] h = tt
each_holds (b ∷ bs) h = each_after b bs h

-- Where each of the tests holds, all of them do.
pub all_hold_lem : (bs : List Bool) → EachHolds bs → all_hold bs ≡ true
all_hold_lem [] h = refl
all_hold_lem (b ∷ bs) h = all_after b bs h.0 h.1
