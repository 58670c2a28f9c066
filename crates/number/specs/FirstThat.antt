-- The first that applies, by tests and by conditions: where each test says what its condition says, as long as no test before it holds, the number
-- that the tests give is that of the first condition that applies, and no other number is. Assumes nothing.
use Rattle.std.specs.Prelude.{Bool, cond, false, not, true, List, [], ◌∷◌, ◌++◌, ◌↔◌, ◌≡◌, refl, ℕ, ◌≤◌, ◌<◌, ltb}
use Rattle.std.proofs.Common.{true≢false, inl, inr, ⊎_elim, subst, sym, ◌∙◌, arith, ltb-false, ltb-true}
use Rattle.std.proofs.lemmas.Bool.{not-false, not-true}
use Rattle.number.specs.First.{Condition, First, NoneApply, ◌given-when◌}
use Rattle.number.specs.Refused.{Refusal, ◌if◌, done, first_of, too_short}

-- the test says what the condition says
pub record Reflects (r : Refusal) (c : Condition) : Type 0 where
  pub holds : r.applies ≡ true → c.applies × (r.number ≡ c.number)
  pub fails : r.applies ≡ false → c.applies → ⊥

-- .. of each test, where none before it holds
abbrev pub AllReflect : List Refusal → List Condition → Type 0
AllReflect [] [] = Unit {0}
AllReflect [] (c ∷ cs) = ⊥
AllReflect (r ∷ rs) [] = ⊥
AllReflect (r ∷ rs) (c ∷ cs) = Reflects r c × (r.applies ≡ false → AllReflect rs cs)

first_of_lem : (rs : List Refusal) (cs : List Condition) → AllReflect rs cs → First cs (first_of rs)
first_of_lem [] [] h = refl
first_of_lem [] (c ∷ cs) h = elim h [ ]
first_of_lem (r ∷ rs) [] h = elim h [ ]
first_of_lem (r ∷ rs) (c ∷ cs) h = go (λ e. first_of_lem rs cs (h.1 e)) r.applies refl
  where
    go : (r.applies ≡ false → First cs (first_of rs)) → (b : Bool) → r.applies ≡ b → First (c ∷ cs) (cond b r.number (first_of rs))
    go later true e = inl (h.0.holds e)
    go later false e = inr (h.0.fails e, later e)

-- no second number is the first that applies
first_one : (cs : List Condition) (m m' : ℕ) → First cs m → First cs m' → m ≡ m'
first_one [] m m' h h' = h ∙ sym h'
first_one (c ∷ cs) m m' (inl h) (inl h') = h.1 ∙ sym h'.1
first_one (c ∷ cs) m m' (inl h) (inr h') = absurd (h'.0 h.0)
first_one (c ∷ cs) m m' (inr h) (inl h') = absurd (h.0 h'.0)
first_one (c ∷ cs) m m' (inr h) (inr h') = first_one cs m m' h.1 h'.1

-- a test that never holds says what a condition that never applies says
pub never : (number : ℕ) (c : Condition) → (c.applies → ⊥) → Reflects (record { number = number; applies = false }) c
never number c h = record { holds = λ e. absurd (true≢false (sym e)); fails = λ e. h }

-- a condition that does not apply may be left out in front
pub first_behind : (c : Condition) (cs : List Condition) (m : ℕ) → ¬ c.applies → First (c ∷ cs) m ↔ First cs m
first_behind c cs m off = (⊎_elim (λ f. absurd (off f.0)) (λ f. f.1), λ f. inr (off, f))

-- ---- numbers that are all different: each condition's own number tells that it applies and none before it does

-- the numbers rise from above m
abbrev pub Rising : ℕ → List Condition → Type 0
Rising m [] = Unit {0}
Rising m (c ∷ cs) = (m < c.number) × Rising c.number cs

-- a number at or below the first one is given by none of the conditions
not_below : (m : ℕ) (cs : List Condition) (k : ℕ) → Rising m cs → First cs k → k ≤ m → (k ≡ done) × NoneApply cs
not_below m [] k r f h = (f, tt)
not_below m (c ∷ cs) k r (inl f) h = absurd (omega (arith, f.1, r.0))
not_below m (c ∷ cs) k r (inr f) h =
    let later = not_below c.number cs k r.1 f.1 (omega (arith, r.0)) in
    (later.0, (f.0, later.1))

none_first : (cs : List Condition) → NoneApply cs → First cs done
none_first [] h = refl
none_first (c ∷ cs) h = inr (h.0, none_first cs h.1)

-- 0 is given exactly when none applies
first_none : (cs : List Condition) → Rising done cs → First cs done ↔ NoneApply cs
first_none cs r = ((λ f. (not_below done cs done r f (omega arith)).1), none_first cs)

-- a condition's number is given exactly when it applies and none before it does
first_this : (m : ℕ) (before : List Condition) (c : Condition) (later : List Condition) → Rising m (before ++ c ∷ later)
    → First (before ++ c ∷ later) c.number ↔ (NoneApply before × c.applies)
first_this m before c later r = (to m before r, from before)
  where
    above : (m : ℕ) (before : List Condition) → Rising m (before ++ c ∷ later) → m < c.number
    above m [] r = r.0
    above m (b ∷ bs) r = omega (arith, r.0, above b.number bs r.1)

    to : (m : ℕ) (before : List Condition) → Rising m (before ++ c ∷ later) → First (before ++ c ∷ later) c.number → NoneApply before × c.applies
    to m [] r (inl f) = (tt, f.0)
    to m [] r (inr f) = absurd (omega (arith, r.0, (not_below c.number later c.number r.1 f.1 (omega arith)).0))
    to m (b ∷ bs) r (inl f) = absurd (omega (arith, f.1, above b.number bs r.1))
    to m (b ∷ bs) r (inr f) = let rest = to b.number bs r.1 f.1 in ((f.0, rest.0), rest.1)

    from : (before : List Condition) → NoneApply before × c.applies → First (before ++ c ∷ later) c.number
    from [] h = inl (h.1, refl)
    from (b ∷ bs) h = inr (h.0.0, from bs (h.0.1, h.1))

-- ---- the tests alone

-- no number of the tests is 0, and so 0 says that none holds
abbrev pub Numbered : List Refusal → Type 0
Numbered [] = Unit {0}
Numbered (r ∷ rs) = (done < r.number) × Numbered rs

abbrev pub NoneHolds : List Refusal → Type 0
NoneHolds [] = Unit {0}
NoneHolds (r ∷ rs) = (r.applies ≡ false) × NoneHolds rs

pub none_holds : (rs : List Refusal) → Numbered rs → first_of rs ≡ done → NoneHolds rs
none_holds [] n h = tt
none_holds (r ∷ rs) n h = go (λ e. none_holds rs n.1 e) r.applies refl h
  where
    go : (first_of rs ≡ done → NoneHolds rs) → (b : Bool) → r.applies ≡ b → cond b r.number (first_of rs) ≡ done → NoneHolds (r ∷ rs)
    go later true e h = absurd (omega (arith, n.0))
    go later false e h = (e, later h)

-- no number is above m, and so the one that is given is not
abbrev pub AtMost : ℕ → List Refusal → Type 0
AtMost m [] = Unit {0}
AtMost m (r ∷ rs) = (r.number ≤ m) × AtMost m rs

pub first_at_most : (m : ℕ) (rs : List Refusal) → AtMost m rs → first_of rs ≤ m
first_at_most m [] h = omega arith
first_at_most m (r ∷ rs) h = go (first_at_most m rs h.1) r.applies
  where
    go : first_of rs ≤ m → (b : Bool) → cond b r.number (first_of rs) ≤ m
    go later true = h.0
    go later false = later

-- ---- what holds of 0, and of each number whose condition applies, holds of the first that applies
abbrev pub AllGiven : (ℕ → Type 0) → List Condition → Type 0
AllGiven P [] = P done
AllGiven P (c ∷ cs) = (c.applies → P c.number) × AllGiven P cs

pub first_has : (P : ℕ → Type 0) (cs : List Condition) (m : ℕ) → AllGiven P cs → First cs m → P m
first_has P [] m all f = subst P (sym f) all
first_has P (c ∷ cs) m all (inl f) = subst P (sym f.1) (all.0 f.0)
first_has P (c ∷ cs) m all (inr f) = first_has P cs m all.1 f.1

-- ---- a test that several calls make: an output shorter than it needs to be
pub judges_short : (room needed : ℕ) → Reflects (too_short if ltb room needed) (too_short given-when (room < needed))
judges_short room needed = record {
  holds = λ e. (ltb-true room needed e, refl);
  fails = λ e short. omega (arith, ltb-false room needed e);
}

-- The refusal of what breaks a rule, where the test says exactly that the rule holds.
pub judges_rule : (number : ℕ) {test : Bool} {Rule : Type 0} → (test ≡ true) ↔ Rule → Reflects (number if not test) (number given-when (¬ Rule))
judges_rule number {test} exactly = record {
  holds = λ e. ((λ rule. true≢false (sym (exactly.1 rule) ∙ not-true test e)), refl);
  fails = λ e broken. broken (exactly.0 (not-false test e));
}

-- ---- what a call's number says, where its tests say what its conditions say
module _ (rs : List Refusal) (cs : List Condition) (reflect : AllReflect rs cs) where
  -- The number that the tests give is that of the first condition that applies, and 0 if none does.
  pub number_exactly : (m : ℕ) → (first_of rs ≡ m) ↔ First cs m
  number_exactly m =
      let f = first_of_lem rs cs reflect in
      ((λ e. subst (First cs) e f), λ g. first_one cs _ m f g)

  module _ (rising : Rising done cs) where
    -- So it is 0 exactly when none applies ..
    pub done_exactly : (first_of rs ≡ done) ↔ NoneApply cs
    done_exactly =
        let e = number_exactly done in
        let f = first_none cs rising in
        ((λ h. f.0 (e.0 h)), λ h. e.1 (f.1 h))

    -- .. and each condition's own number exactly when it applies and none before it does.
    pub this_exactly : (before : List Condition) (c : Condition) (later : List Condition) → cs ≡ before ++ c ∷ later
        → (first_of rs ≡ c.number) ↔ (NoneApply before × c.applies)
    this_exactly before c later split =
        let e = number_exactly c.number in
        let f = first_this done before c later (subst (Rising done) split rising) in (
          (λ h. f.0 (subst (λ (l : List Condition). First l c.number) split (e.0 h))),
          λ h. e.1 (subst (λ (l : List Condition). First l c.number) (sym split) (f.1 h)),
        )
