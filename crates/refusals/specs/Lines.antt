-- For each of the nineteen lines the number that stops it, or 0 and the state after the line, by what the line does (Acts, crate `machine`) and what its row of
-- the table says; and what it is that the code does this on bytes. Assumes nothing.
use Rattle.std.specs.Prelude.{IfOk, cond, List, ◌≡◌, ℕ}
use Rattle.std.proofs.Common.{Result}
use Rattle.cells.specs.Cells.{HasThread, Held, Shows}
use Rattle.figure.specs.Figure.{◌⟪flag≔◌⟫, ◌⟪line◌≔◌⟫, ◌⟪locked◌≔◌⟫, ◌⟪tail≔◌⟫, high, low, my, prev, succ, tail}
use Rattle.lines.specs.declared.Follow.{Follow}
use Rattle.lines.specs.declared.Row.{Row}
use Rattle.lock.specs.State.{thread_at}
use Rattle.lock.specs.Valid.{Valid}
use Rattle.lock.specs.declared.State.{State}
use Rattle.machine.specs.Acts.{choose, clear_next, exchange, followed_by, link_prev, lower_flag, pass_on, read_next, release, send_mess, set_locked, take_mess}
use Rattle.machine.specs.Refusals.{follows_empty}
use Rattle.machine.specs.Step.{stop_or}
use Rattle.machine.specs.Stepped.{Stepped}
use Rattle.number.specs.Answer.{answer_of}
use Rattle.number.specs.Numbers.{bottom, is_bottom, same}
use Rattle.number.specs.Refused.{done}
use Rattle.number.specs.declared.NodeNo.{NodeNo}
use Rattle.number.specs.declared.Refusal.{Refusal}
use Rattle.number.specs.declared.ThreadNo.{ThreadNo}
use Rattle.refusals.specs.Stops.{choose_stop, place_stop, stop_by, wait_stop}

-- ---- the lines
module _ (row : Row) (s : State) (t : ThreadNo) (n : NodeNo) where
  -- the node that the line follows
  abbrev pub follows : NodeNo
  follows = followed_by row.0 (thread_at s t)

  -- what stops it, with `later` behind 6, 9 and 10
  abbrev stops : ℕ → ℕ
  stops later = stop_by row.0 s follows n later

  -- the number that stops it, or 0 and the state that it leaves, at the line that comes next
  abbrev goes : ℕ → State → Stepped
  goes number after = stop_or number s (after ⟪line t ≔ row.2 ⟫)

  -- 11
  abbrev pub chosen : Stepped
  chosen = goes (choose_stop s n) (choose s t follows n)

  -- 12
  abbrev pub next_cleared : Stepped
  next_cleared = goes (stops done) (clear_next s t follows)

  -- 13
  abbrev pub locked_set : Stepped
  locked_set = goes (stops done) (set_locked s t follows)

  -- 14
  abbrev pub exchanged : Stepped
  exchanged = goes (stops (place_stop (high s))) (exchange s t follows)

  -- 15 and 21, which look at node k
  abbrev pub looked : NodeNo → Stepped
  looked k = stop_or (stops done) s (s ⟪line t ≔ cond (is_bottom k) row.2 row.3 ⟫)

  -- 15
  abbrev pub prev_looked : Stepped
  prev_looked = looked (prev s t)

  -- 16, 19, 23 and 27
  abbrev pub waited : Stepped
  waited = goes (stops (wait_stop row.1 s follows)) s

  -- 17
  abbrev pub flag_lowered : Stepped
  flag_lowered = goes (stops done) (lower_flag s t follows)

  -- 18
  abbrev pub prev_linked : Stepped
  prev_linked = goes (stops done) (link_prev s t follows)

  -- 20 and 24
  abbrev pub next_read : Stepped
  next_read = goes (stops done) (read_next s t follows)

  -- 21
  abbrev pub succ_looked : Stepped
  succ_looked = looked (succ s t)

  -- 22
  abbrev pub tail_closed : Stepped
  tail_closed = stop_or (stops done) s (cond (same (tail s) (my s t)) (s ⟪tail≔ bottom ⟫ ⟪line t ≔ row.2 ⟫) (s ⟪line t ≔ row.3 ⟫))

  -- 25
  abbrev pub mess_sent : Stepped
  mess_sent = goes (stops done) (send_mess s t follows)

  -- 26
  abbrev pub released : Stepped
  released = goes (stops done) (release s t follows)

  -- 28
  abbrev pub mess_taken : Stepped
  mess_taken = goes (stops done) (take_mess s t follows)

  -- 29
  abbrev pub passed_on : Stepped
  passed_on = goes (stops (place_stop (low s))) (pass_on s t follows)

-- node k unlocked, or the flag raised where there is none
abbrev pub freed : NodeNo → State → State
freed k s = cond (is_bottom k) (s ⟪flag≔ 1 ⟫) (s ⟪locked k ≔ 0 ⟫)

-- ---- the node that a line follows

-- r is, for every state that b holds, the number that stops the line by 6, 9 and 10, or the node that it follows
pub record Followed (b : List ℕ) (row : Row) (t : ThreadNo) (n : NodeNo) (r : Result NodeNo Refusal) : Type 0 where
  pub stop : Shows b (answer_of r) (λ s. stop_by row.0 s (follows row s t n) n done)
  pub node : IfOk r (λ k. Shows b k (λ s. follows row s t n))

-- ---- what the functions of the lines ask for

-- b hold a valid state that has a thread t
pub record Ready (b : List ℕ) (t : ThreadNo) : Type 0 where
  pub has : HasThread b t
  pub state : State
  pub held : Held b state
  pub valid : Valid state

-- the line follows its node whatever it is, so that 9 stops it at 0
abbrev pub Strict : Follow → Type 0
Strict f = (k : NodeNo) → follows_empty f k ≡ is_bottom k

-- ---- what they give

-- the answer r and the bytes b' are, for every state that b holds, the answer of f and the bytes of its state
abbrev pub Gives : List ℕ → List ℕ → ℕ → (State → Stepped) → Type 0
Gives b b' r f = (s : State) → Held b s → (r ≡ (f s).answer) × Held b' (f s).state
