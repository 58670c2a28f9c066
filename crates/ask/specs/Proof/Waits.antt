-- The table's waits that the question counts are those of lines 16 and 19: one test, computed over the lines. Rests on Count. Assumes nothing.
use Rattle.std.specs.Prelude.{Bool, false, true, ◌≡◌, refl, ℕ, ◌≤◌, T}
use Rattle.std.specs.Bool.{beq}
use Rattle.std.proofs.Common.{ap, ◌∙◌}
use Rattle.lines.specs.ByRow.{of_line}
use Rattle.lines.specs.Lines.{line_at}
use Rattle.lines.specs.Lines.{Line}
use Rattle.lock.specs.State.{thread_at}
use Rattle.lock.specs.Valid.{Valid}
use Rattle.lock.specs.declared.State.{State}
use Rattle.ask.specs.Ask.{answered, how_many_threads, is_counted, is_waiting, waiting}
use Rattle.ask.specs.Meaning.{at16or19, is16or19}
use Rattle.ask.specs.Proof.Answer.{judged_valid}
use Rattle.ask.specs.Proof.Count.{same_count}

-- the table says of line l what document 01 says
abbrev agrees : ℕ → Line → Bool
agrees l r = beq (is_counted r.wait) (is16or19 l)

alike : (a b : Bool) → T (beq a b) → a ≡ b
alike true true h = refl
alike false false h = refl
alike false true h = elim h [ ]
alike true false h = elim h [ ]

-- Line l has a wait that is counted exactly if it is 16 or 19.
waits_at_lem : (l : ℕ) → 11 ≤ l → l ≤ 29 → is_counted (line_at l).wait ≡ is16or19 l
waits_at_lem l a b = alike _ _ (of_line agrees tt l a b)

-- In a valid state as many threads have such a wait as are at line 16 or 19.
pub waiting_lines : (s : State) → Valid s → waiting s ≡ answered (how_many_threads at16or19 s)
unfolding waiting
waiting_lines s rule =
    judged_valid s _ rule ∙ ap answered (same_count s.shared.threads is_waiting at16or19 s s
    (λ t b. let l = (rule.thread t b.from b.to).line in waits_at_lem (thread_at s t).line l.from l.to))
