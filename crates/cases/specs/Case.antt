-- What a case of document 01's "States to try by hand" is, and when a tool passes it. Assumes nothing.
use Rattle.std.specs.Prelude.{Bool, cond, false, true, ◌&&◌, List, [], ◌∷◌, ℕ, length}
use Rattle.std.proofs.Math.Dec.{eqb}
use Rattle.ask.specs.Ask.{status as status_asked}
use Rattle.lock.specs.Fresh.{opened}
use Rattle.lock.specs.State.{node_at, thread_at}
use Rattle.lock.specs.Fresh.{Opened}
use Rattle.lock.specs.declared.State.{State}
use Rattle.number.specs.Numbers.{node, thread}
use Rattle.number.specs.Refused.{done}
use Rattle.number.specs.declared.NodeNo.{NodeNo}
use Rattle.number.specs.declared.ThreadNo.{ThreadNo}
use Rattle.saved.specs.Saved.{bytes_of}
use Rattle.machine.specs.Stepped.{Stepped}
use Rattle.events.specs.Events.{after, answers, lines_done}
use Rattle.events.specs.declared.Event.{Event}

infix 68 ◌is◌
infix 68 ◌under◌gives◌
-- ---- the numbers of a state, as document 01 names them: the shared ones, those of thread t, and those of node k
abbrev pub flag : State → ℕ
flag s = s.shared.flag

abbrev pub tail : State → ℕ
tail s = s.shared.tail.0

abbrev pub mess : State → ℕ
mess s = s.shared.mess.0

abbrev pub low : State → ℕ
low s = s.shared.low.0

abbrev pub high : State → ℕ
high s = s.shared.high.0

abbrev pub entered : State → ℕ
entered s = s.shared.entered

-- the word of the nodes in use
abbrev pub used : State → ℕ
used s = s.shared.used

abbrev pub line : ℕ → State → ℕ
line t s = (thread_at s (thread t)).line

abbrev pub my : ℕ → State → ℕ
my t s = (thread_at s (thread t)).my.0

abbrev pub prev : ℕ → State → ℕ
prev t s = (thread_at s (thread t)).prev.0

abbrev pub succ : ℕ → State → ℕ
succ t s = (thread_at s (thread t)).succ.0

abbrev pub nxmy : ℕ → State → ℕ
nxmy t s = (thread_at s (thread t)).nxmy.0

abbrev pub slot : ℕ → State → ℕ
slot t s = (thread_at s (thread t)).slot.0

abbrev pub next : ℕ → State → ℕ
next k s = (node_at s (node k)).next.0

abbrev pub locked : ℕ → State → ℕ
locked k s = (node_at s (node k)).locked

-- its status, as the question gives it, and how many bytes its saved state has
abbrev pub status : State → ℕ
status s = (status_asked s).value

abbrev pub bytes : State → ℕ
bytes s = length (bytes_of s)

-- ---- a case

-- a number of the state, and what it is to be
pub record Reading : Type 0 where
  pub read : State → ℕ
  pub expected : ℕ

abbrev pub ◌is◌ : (State → ℕ) → ℕ → Reading
read is expected = record { read = read; expected = expected }

-- the two lists are equal
unfoldable pub equal : List ℕ → List ℕ → Bool
equal [] [] = true
equal [] (y ∷ ys) = false
equal (x ∷ xs) [] = false
equal (x ∷ xs) (y ∷ ys) = eqb x y && equal xs ys

-- the saved state is these bytes and no others
abbrev pub saved_as : List ℕ → Reading
saved_as file = (λ s. cond (equal (bytes_of s) file) 1 0) is 1

pub record Case : Type 0 where
  -- what it starts from: what the fresh call gives, or a state made by hand
  pub start : Opened
  pub events : List Event
  -- the answer to each event
  pub answers : List ℕ
  -- the lines that the events execute, as far as document 01 names them
  pub lines : List ℕ
  -- the numbers that document 01 names, in the state reached
  pub numbers : List Reading

-- a state that no call gave
abbrev pub by_hand : State → Opened
by_hand s = opened done s

-- a case of which document 01 names the answers alone
abbrev pub ◌under◌gives◌ : Opened → List Event → List ℕ → Case
start under events gives answers = record { start = start; events = events; answers = answers; lines = []; numbers = [] }

-- ---- when a tool passes a case

-- the second list begins with the first
unfoldable pub begins : List ℕ → List ℕ → Bool
begins [] ys = true
begins (x ∷ xs) [] = false
begins (x ∷ xs) (y ∷ ys) = eqb x y && begins xs ys

-- each number is as expected
unfoldable pub as_expected : State → List Reading → Bool
as_expected s [] = true
as_expected s (r ∷ rs) = eqb (r.read s) r.expected && as_expected s rs

module _ (tool : State → ThreadNo → NodeNo → Stepped) where
  -- the start is accepted, the answers and the lines are as said, and so are the numbers of the state reached
  unfoldable pub passes : Case → Bool
  unfolding answers lines_done after equal begins as_expected
  passes c =
      let s = c.start.state in
      eqb c.start.number done
      && equal (answers tool s c.events) c.answers
      && begins c.lines (lines_done tool s c.events)
      && as_expected (after tool s c.events) c.numbers

  unfoldable pub passes_all : List Case → Bool
  passes_all [] = true
  passes_all (c ∷ cs) = passes c && passes_all cs
