-- The numbers that stop an event, in document 01's order, as the code asks for them: some of the refusals of Refusals (crate `machine`), with those that a line
-- cannot meet left out. At a line's own row they are the line's refusal, by computation (crate `event`). Assumes nothing.
use Rattle.std.specs.Prelude.{cond, not, ◌||◌, [], ◌∷◌, ℕ, leb, ltb}
use Rattle.figure.specs.Figure.{entered, flag, local}
use Rattle.lines.specs.declared.Follow.{Follow}
use Rattle.lines.specs.declared.Wait.{Wait}
use Rattle.lines.specs.declared.Wait.TheVariants.{ForFlag, ForLink, ForUnlock, NoWait}
use Rattle.lock.specs.State.{node_at}
use Rattle.lock.specs.declared.State.{State}
use Rattle.machine.specs.Refusals.{follows_empty, follows_unused, must_stay, wait_number}
use Rattle.number.specs.Numbers.{is_bottom}
use Rattle.number.specs.Refused.{◌if◌, done, first_of, followed_empty, followed_unused, no_entry_left, no_place_left, node_taken, wrong_node}
use Rattle.number.specs.Sizes.{last_place, most_entries}
use Rattle.number.specs.declared.NodeNo.{NodeNo}
use Rattle.number.specs.declared.Place.{Place}
use Rattle.word.specs.Word.{in_use}

-- 6, 9 and 10, of a line that follows node k and chooses none; else the number that stands behind them
abbrev pub stop_by : Follow → State → NodeNo → NodeNo → ℕ → ℕ
stop_by f s k n later =
    cond (not (is_bottom n)) wrong_node (cond (follows_empty f k) followed_empty (cond (follows_unused (local s) k) followed_unused later))

-- 6, 7 and 8, of the line that chooses node n
abbrev pub choose_stop : State → NodeNo → ℕ
choose_stop s n =
    first_of (
    wrong_node if (is_bottom n || ltb s.shared.nodes n.0)
    ∷ no_entry_left if leb most_entries (entered s)
    ∷ node_taken if in_use (local s) n
    ∷ []
    )

-- 11, of a line that counts up to the place behind p
abbrev pub place_stop : Place → ℕ
place_stop p = cond (leb last_place p.0) no_place_left done

-- 12, of a line that waits and follows node k
abbrev pub wait_stop : Wait → State → NodeNo → ℕ
wait_stop w s k = cond (must_stay w (flag s) (node_at s k)) (wait_number w) done

-- X, of a line that waits for a number of its node
abbrev pub AtNode : Wait → Type 0 → Type 0
AtNode NoWait X = Unit {0}
AtNode ForFlag X = Unit {0}
AtNode ForUnlock X = X
AtNode ForLink X = X
