-- What the crate's inner functions ask for and give; no call of document 01 is promised by these. Assumes nothing.
use Rattle.std.specs.Prelude.{Bool, cond, true, List, ◌≡◌, ℕ, ◌+◌, ◌*◌, ◌≤◌, length}
use Rattle.std.proofs.lemmas.List.Edits.{sets}
use Rattle.text.specs.Text.{heading, last_of, lines_of, text_of}

-- what no line of the text is longer than: eight numbers of at most ten digits, and a byte behind each
abbrev pub line_room : ℕ
line_room = 88

-- bytes stored from a place on, where they are to be written; else nothing is stored
unfoldable pub placed : Bool → List ℕ → ℕ → List ℕ → List ℕ
placed write out at bytes = cond write (sets out at bytes) out

-- No place of the text is farther than that behind the last event's line: a heading of 40 bytes, and at most 16,383 lines.
abbrev pub farthest : ℕ
farthest = 40 + line_room * 16_383

-- There is room for a line from a place on, where it is to be written.
pub record LineFits (write : Bool) (line : List ℕ) (at : ℕ) (out : List ℕ) : Type 0 where
  pub within : length line ≤ line_room
  pub near : at ≤ farthest
  pub room : write ≡ true → at + length line ≤ length out

-- There is room for the lines of the schedule's events behind the heading, where they are to be written.
pub record LinesFit (write : Bool) (b out : List ℕ) : Type 0 where
  pub room : write ≡ true → length heading + length (lines_of b) ≤ length out

-- What a pass over the events gives: the place behind the last line, and the lines stored, where they are to be written.
abbrev pub Passed : Bool → List ℕ → List ℕ → List ℕ → ℕ → Type 0
Passed write b out₀ out place = (place ≡ length heading + length (lines_of b)) × (out ≡ placed write out₀ (length heading) (lines_of b))

-- The line is the last of the schedule's text, and there is room for the text.
pub record TextFits (b line out : List ℕ) : Type 0 where
  pub last : line ≡ last_of b
  pub within : length line ≤ line_room
  pub room : length (text_of b) ≤ length out
