-- Document 01, "The nineteen lines", the column "what it does": one definition for each thing that a line does, in the figure's assignments, under the
-- rows that do it, in the order 11 to 29. t is the thread and k the node that its line follows. "Nothing else changes in a step": each keeps all that it
-- does not name. The line numbers stand in the table (Lines, crate `lines`). Assumes nothing.
use Rattle.std.specs.Prelude.{Bool, cond, true, ℕ, ◌+◌}
use Rattle.figure.specs.Figure.{◌⟪entered≔◌⟫, ◌⟪flag≔◌⟫, ◌⟪high≔◌⟫, ◌⟪line◌≔◌⟫, ◌⟪local≔◌⟫, ◌⟪locked◌≔◌⟫, ◌⟪low≔◌⟫, ◌⟪mess≔◌⟫, ◌⟪my◌≔◌⟫}
use Rattle.figure.specs.Figure.{◌⟪next◌≔◌⟫, ◌⟪nxmy◌≔◌⟫, ◌⟪prev◌≔◌⟫, ◌⟪slot◌≔◌⟫, ◌⟪succ◌≔◌⟫, ◌⟪tail≔◌⟫}
use Rattle.figure.specs.Figure.{entered, high, local, low, mess, my, next, prev, succ, tail}
use Rattle.lines.specs.Lines.{Act, Line, Look}
use Rattle.lines.specs.Lines.Act.{Choose, ClearNext, CloseTail, Exchange, LinkPrev, LowerFlag, PassOn, ReadNext, Release, SendMess, SetLocked, Stay}
use Rattle.lines.specs.Lines.Act.{TakeMess}
use Rattle.lines.specs.Lines.Look.{AtPrev, AtSucc, AtTail, Straight}
use Rattle.lines.specs.declared.Follow.{Follow}
use Rattle.lines.specs.declared.Follow.TheVariants.{My, NoNode, Prev, Succ}
use Rattle.lock.specs.declared.State.{State}
use Rattle.lock.specs.declared.Thread.{Thread}
use Rattle.number.specs.Numbers.{behind, bottom, is_bottom, same}
use Rattle.number.specs.declared.NodeNo.{NodeNo}
use Rattle.number.specs.declared.ThreadNo.{ThreadNo}
use Rattle.word.specs.Word.{put_in, take_out}

-- ---- what a line follows and looks at

-- the node that a thread's line follows; 0 where it follows none
abbrev pub followed_by : Follow → Thread → NodeNo
followed_by NoNode v = bottom
followed_by My v = v.my
followed_by Prev v = v.prev
followed_by Succ v = v.succ

-- "looks at prev", 16 if 0; "looks at succ", 22 if 0; "if tail = my", 25 if it was
abbrev pub goes_first : Look → State → ThreadNo → Bool
goes_first Straight s t = true
goes_first AtPrev s t = is_bottom (prev s t)
goes_first AtSucc s t = is_bottom (succ s t)
goes_first AtTail s t = same (tail s) (my s t)

-- the line that comes next
abbrev pub next_line : Line → State → ThreadNo → ℕ
next_line r s t = cond (goes_first r.look s t) r.goes r.other

-- ---- what a line does
module _ (s : State) (t : ThreadNo) (k : NodeNo) where
  -- 11 | my := the event's node, put in use; entered + 1
  abbrev pub choose : NodeNo → State
  choose n = s ⟪my t ≔ n ⟫ ⟪local≔ put_in (local s) n ⟫ ⟪entered≔ entered s + 1 ⟫

  -- 12 | next(my) := 0
  abbrev pub clear_next : State
  clear_next = s ⟪next k ≔ bottom ⟫

  -- 13 | locked(my) := 1
  abbrev pub set_locked : State
  set_locked = s ⟪locked k ≔ 1 ⟫

  -- 14 | prev := tail; tail := my; slot := high; high + 1
  abbrev pub exchange : State
  exchange = s ⟪prev t ≔ tail s ⟫ ⟪tail≔ my s t ⟫ ⟪slot t ≔ high s ⟫ ⟪high≔ behind (high s) ⟫

  -- 15 | looks at prev
  -- 16 | waits until flag is 1
  -- 19 | waits until locked(my) is 0
  -- 21 | looks at succ
  -- 23 | waits until next(my) is not 0
  -- 27 | the critical section
  abbrev pub stay : State
  stay = s

  -- 17 | flag := 0
  abbrev pub lower_flag : State
  lower_flag = s ⟪flag≔ 0 ⟫

  -- 18 | next(prev) := my
  abbrev pub link_prev : State
  link_prev = s ⟪next k ≔ my s t ⟫

  -- 20 | nxmy and succ := next(my)
  -- 24 | nxmy and succ := next(my)
  abbrev pub read_next : State
  read_next = s ⟪nxmy t ≔ next s k ⟫ ⟪succ t ≔ next s k ⟫

  -- 22 | if tail = my then tail := 0
  abbrev pub close_tail : State
  close_tail = cond (same (tail s) (my s t)) (s ⟪tail≔ bottom ⟫) s

  -- 25 | mess := succ
  abbrev pub send_mess : State
  send_mess = s ⟪mess≔ succ s t ⟫

  -- 26 | succ := 0; my is no longer in use (the number stays)
  abbrev pub release : State
  release = s ⟪succ t ≔ bottom ⟫ ⟪local≔ take_out (local s) k ⟫

  -- 28 | succ := mess
  abbrev pub take_mess : State
  take_mess = s ⟪succ t ≔ mess s ⟫

  -- 29 | if succ is not 0, locked(succ) := 0, else flag := 1; low + 1
  abbrev pub pass_on : State
  pass_on = cond (is_bottom k) (s ⟪flag≔ 1 ⟫) (s ⟪locked k ≔ 0 ⟫) ⟪low≔ behind (low s) ⟫

  -- what a line does, given node n, but for the line number
  unfoldable pub perform : Act → NodeNo → State
  perform Choose n = choose n
  perform ClearNext n = clear_next
  perform SetLocked n = set_locked
  perform Exchange n = exchange
  perform Stay n = stay
  perform LowerFlag n = lower_flag
  perform LinkPrev n = link_prev
  perform ReadNext n = read_next
  perform CloseTail n = close_tail
  perform SendMess n = send_mess
  perform Release n = release
  perform TakeMess n = take_mess
  perform PassOn n = pass_on

  -- the state after the line: what the line does, and the line that comes next
  abbrev pub moved : Line → NodeNo → State
  moved r n = perform r.act n ⟪line t ≔ next_line r s t ⟫
