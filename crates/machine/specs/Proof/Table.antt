-- The table of lines says what document 01's sentences say: one test, computed over the nineteen rows, and the laws that turn it into the facts of
-- each line. Assumes nothing.
use Rattle.std.specs.Prelude.{false, Bool, true, not, ◌&&◌, [], ◌∷◌, ℕ, ◌≤◌, T, eqb, leb}
use Rattle.std.proofs.Common.{leb→le}
use Rattle.lines.specs.Lines.{line_at, lines}
use Rattle.lines.specs.ByRow.{all_from, of_line}
use Rattle.lines.specs.declared.Follow.{Follow}
use Rattle.lines.specs.declared.Follow.TheVariants.{My, NoNode, Prev, Succ}
use Rattle.lines.specs.Lines.{Line}
use Rattle.lines.specs.declared.Wait.{Wait}
use Rattle.lines.specs.declared.Wait.TheVariants.{ForFlag, ForLink, ForUnlock, NoWait}
use Rattle.lock.specs.Valid.{Between}
use Rattle.machine.specs.Refusals.{counts}
use Rattle.machine.specs.Refusals.{Count}
use Rattle.machine.specs.Refusals.Count.{Entries, High, Low, Nothing}
use Rattle.machine.specs.Conditions.{among, follow_my}

-- ---- what the sentences say, by line number

-- line 11 counts entries, line 14 high, line 29 low
abbrev pub counts_at : Count → ℕ → Bool
counts_at Entries l = eqb l 11
counts_at High l = eqb l 14
counts_at Low l = eqb l 29
counts_at Nothing l = not (among l (11 ∷ 14 ∷ 29 ∷ []))

-- my is followed at the lines of `follow_my`, prev at 18, succ at 29
abbrev pub follows_at : Follow → ℕ → Bool
follows_at My l = among l follow_my
follows_at Prev l = eqb l 18
follows_at Succ l = eqb l 29
follows_at NoNode l = not (among l (18 ∷ 29 ∷ follow_my))

-- line 16 waits for the flag, 19 for the unlock, 23 for the link
abbrev pub waits_at : Wait → ℕ → Bool
waits_at ForFlag l = eqb l 16
waits_at ForUnlock l = eqb l 19
waits_at ForLink l = eqb l 23
waits_at NoWait l = not (among l (16 ∷ 19 ∷ 23 ∷ []))

-- ---- the test, over the whole table
abbrev agrees : ℕ → Line → Bool
agrees l r = counts_at (counts r.act) l && follows_at r.follow l && waits_at r.wait l

-- each line is followed by lines of the table
abbrev stays_inside : ℕ → Line → Bool
stays_inside l r = leb 11 r.goes && leb r.goes 29 && leb 11 r.other && leb r.other 29

all_agree : T (all_from agrees 11 lines)
all_agree = tt

all_inside : T (all_from stays_inside 11 lines)
all_inside = tt

-- ---- what the test says of each line

three : (a b c : Bool) → T (a && b && c) → T a × T b × T c
three true true c h = (tt, tt, h)
three false b c h = elim h [ ]
three true false c h = elim h [ ]

-- what the sentences say of line l, that its row says
pub row_agrees : (l : ℕ) → 11 ≤ l → l ≤ 29
    → T (counts_at (counts (line_at l).act) l) × T (follows_at (line_at l).follow l) × T (waits_at (line_at l).wait l)
row_agrees l a b =
    let r = line_at l in
    three (counts_at (counts r.act) l) (follows_at r.follow l) (waits_at r.wait l) (of_line agrees all_agree l a b)

four : (a b c d : Bool) → T (a && b && c && d) → T a × T b × T c × T d
four true true true d h = (tt, tt, tt, h)
four false b c d h = elim h [ ]
four true false c d h = elim h [ ]
four true true false d h = elim h [ ]

-- where line l goes on, it is to a line of the table
pub row_inside : (l : ℕ) → 11 ≤ l → l ≤ 29 → Between 11 (line_at l).goes 29 × Between 11 (line_at l).other 29
row_inside l a b =
    let r = line_at l in
    let h = four (leb 11 r.goes) (leb r.goes 29) (leb 11 r.other) (leb r.other 29) (of_line stays_inside all_inside l a b) in
    (record { from = leb→le _ _ h.0; to = leb→le _ _ h.1 }, record { from = leb→le _ _ h.2; to = leb→le _ _ h.3 })
