-- Document 01, "The nineteen lines": "A constant table of the nineteen lines gives each one's followed node, its wait and its follow-on lines."
-- Each line stands under document 01's own row, with two things beside the table's columns: what it does, and what it looks at. What the acts
-- named here do is in Acts (crate `machine`). Assumes nothing.
use Rattle.std.specs.Prelude.{cond, List, [], ◌∷◌, ℕ, ◌-◌, ltb, get_or}
use Rattle.number.specs.Sizes.{first_line}
use Rattle.lines.specs.declared.Follow.{Follow}
use Rattle.lines.specs.declared.Follow.TheVariants.{NoNode, My, Prev, Succ}
use Rattle.lines.specs.declared.Row.{Row}
use Rattle.lines.specs.declared.Wait.{Wait}
use Rattle.lines.specs.declared.Wait.TheVariants.{ForFlag, ForLink, ForUnlock, NoWait}

-- what a line does, but for the line number; `Stay` is nothing
pub data Act : Type 0 where
  Stay : Act
  Choose : Act
  ClearNext : Act
  SetLocked : Act
  Exchange : Act
  LowerFlag : Act
  LinkPrev : Act
  ReadNext : Act
  CloseTail : Act
  SendMess : Act
  Release : Act
  TakeMess : Act
  PassOn : Act

-- what a line looks at to choose between its two follow-on lines
pub data Look : Type 0 where
  Straight : Look
  AtPrev : Look
  AtSucc : Look
  AtTail : Look

-- a line: what it does, the node it follows, what it waits for, what it looks at, and its follow-on lines: `goes`, and `other` where what it looks at
-- is not so
pub record Line : Type 0 where
  pub act : Act
  pub follow : Follow
  pub wait : Wait
  pub look : Look
  pub goes : ℕ
  pub other : ℕ

abbrev pub row : Act → Follow → Wait → Look → ℕ → ℕ → Line
row act follow wait look goes other = record { act = act; follow = follow; wait = wait; look = look; goes = goes; other = other }

-- lines 11 to 29, in order
abbrev pub lines : List Line
lines =
    -- 11 | my := the event's node, put in use; entered + 1 | 12
    row Choose NoNode NoWait Straight 12 12
    -- 12 | next(my) := 0 | 13
    ∷ row ClearNext My NoWait Straight 13 13
    -- 13 | locked(my) := 1 | 14
    ∷ row SetLocked My NoWait Straight 14 14
    -- 14 | prev := tail; tail := my; slot := high; high + 1 | 15
    ∷ row Exchange NoNode NoWait Straight 15 15
    -- 15 | looks at prev | 16 if 0, else 18
    ∷ row Stay NoNode NoWait AtPrev 16 18
    -- 16 | waits until flag is 1 | 17
    ∷ row Stay NoNode ForFlag Straight 17 17
    -- 17 | flag := 0 | 20
    ∷ row LowerFlag NoNode NoWait Straight 20 20
    -- 18 | next(prev) := my | 19
    ∷ row LinkPrev Prev NoWait Straight 19 19
    -- 19 | waits until locked(my) is 0 | 20
    ∷ row Stay My ForUnlock Straight 20 20
    -- 20 | nxmy and succ := next(my) | 21
    ∷ row ReadNext My NoWait Straight 21 21
    -- 21 | looks at succ | 22 if 0, else 25
    ∷ row Stay NoNode NoWait AtSucc 22 25
    -- 22 | if tail = my then tail := 0 | 25 if it was, else 23
    ∷ row CloseTail NoNode NoWait AtTail 25 23
    -- 23 | waits until next(my) is not 0 | 24
    ∷ row Stay My ForLink Straight 24 24
    -- 24 | nxmy and succ := next(my) | 25
    ∷ row ReadNext My NoWait Straight 25 25
    -- 25 | mess := succ | 26
    ∷ row SendMess NoNode NoWait Straight 26 26
    -- 26 | succ := 0; my is no longer in use (the number stays) | 27
    ∷ row Release My NoWait Straight 27 27
    -- 27 | the critical section | 28
    ∷ row Stay NoNode NoWait Straight 28 28
    -- 28 | succ := mess | 29
    ∷ row TakeMess NoNode NoWait Straight 29 29
    -- 29 | if succ is not 0, locked(succ) := 0, else flag := 1; low + 1 | 11
    ∷ row PassOn Succ NoWait Straight 11 11
    ∷ []

-- a number that is no line
abbrev pub off_table : Line
off_table = row Stay NoNode NoWait Straight 0 0

-- the row of a line: the table "indexed by line minus 11"
unfoldable pub line_at : ℕ → Line
line_at n = cond (ltb n first_line) off_table (get_or lines (n - first_line) off_table)

-- what the table has of a line: "each one's followed node, its wait and its follow-on lines"
abbrev pub row_of : Line → Row
row_of l = record { 0 = l.follow; 1 = l.wait; 2 = l.goes; 3 = l.other }
