-- Document 01, "Refusal numbers": 6 to 12, in its order, as the step judges them by the line's row. (The same conditions in document 01's own
-- words, by line numbers, are in Conditions, with the theorem that the two agree.) Assumes nothing.
use Rattle.std.specs.Prelude.{Bool, false, not, ◌&&◌, ◌||◌, List, [], ◌∷◌, ℕ, eqb, leb, ltb}
use Rattle.lines.specs.Lines.{Act, Line}
use Rattle.lines.specs.Lines.Act.{Choose, ClearNext, CloseTail, Exchange, LinkPrev, LowerFlag, PassOn, ReadNext, Release, SendMess, SetLocked, Stay}
use Rattle.lines.specs.Lines.Act.{TakeMess}
use Rattle.lines.specs.declared.Follow.{Follow}
use Rattle.lines.specs.declared.Follow.TheVariants.{My, NoNode, Prev, Succ}
use Rattle.lines.specs.declared.Wait.{Wait}
use Rattle.lines.specs.declared.Wait.TheVariants.{ForFlag, ForLink, ForUnlock, NoWait}
use Rattle.lock.specs.State.{node_at}
use Rattle.lock.specs.declared.Node.{Node}
use Rattle.lock.specs.declared.State.{State}
use Rattle.number.specs.Numbers.{is_bottom}
use Rattle.number.specs.Refused.{Refusal, ◌if◌, done, first_of, followed_empty, followed_unused, must_wait, no_entry_left, no_place_left, node_taken, wrong_node}
use Rattle.number.specs.Sizes.{last_place, most_entries}
use Rattle.number.specs.declared.NodeNo.{NodeNo}
use Rattle.number.specs.declared.Place.{Place}
use Rattle.word.specs.Word.{in_use}

-- ---- what is judged

-- what an act counts up, and so has a limit
pub data Count : Type 0 where
  Nothing : Count
  Entries : Count
  High : Count
  Low : Count

-- line 11 the entries, line 14 high, line 29 low
abbrev pub counts : Act → Count
counts Choose = Entries
counts ClearNext = Nothing
counts SetLocked = Nothing
counts Exchange = High
counts Stay = Nothing
counts LowerFlag = Nothing
counts LinkPrev = Nothing
counts ReadNext = Nothing
counts CloseTail = Nothing
counts SendMess = Nothing
counts Release = Nothing
counts TakeMess = Nothing
counts PassOn = Low

-- 6: "at line 11 the node is not 1 to K; elsewhere it is not 0"
abbrev pub bad_node : Count → ℕ → NodeNo → Bool
bad_node Entries nodes n = is_bottom n || ltb nodes n.0
bad_node Nothing nodes n = not (is_bottom n)
bad_node High nodes n = not (is_bottom n)
bad_node Low nodes n = not (is_bottom n)

-- 7: "line 11 with entered = 1,000,000"
abbrev pub no_entry : Count → ℕ → Bool
no_entry Entries entered = leb most_entries entered
no_entry Nothing entered = false
no_entry High entered = false
no_entry Low entered = false

-- 8: "line 11 with a node in use"
abbrev pub taken_node : Count → ℕ → NodeNo → Bool
taken_node Entries used n = in_use used n
taken_node Nothing used n = false
taken_node High used n = false
taken_node Low used n = false

-- 9: "a followed node is 0"; succ is followed only where it is not 0
abbrev pub follows_empty : Follow → NodeNo → Bool
follows_empty NoNode k = false
follows_empty My k = is_bottom k
follows_empty Prev k = is_bottom k
follows_empty Succ k = false

-- 10: "a followed node is not in use"
abbrev pub follows_unused : ℕ → NodeNo → Bool
follows_unused used k = not (is_bottom k) && not (in_use used k)

-- 11: "line 14 with high, or line 29 with low, at 1,000,001"
abbrev pub no_place : Count → Place → Place → Bool
no_place Nothing high low = false
no_place Entries high low = false
no_place High high low = leb last_place high.0
no_place Low high low = leb last_place low.0

-- 12: "the line waits and its condition does not hold"
abbrev pub must_stay : Wait → ℕ → Node → Bool
must_stay NoWait flag nd = false
must_stay ForFlag flag nd = not (eqb flag 1)
must_stay ForUnlock flag nd = not (eqb nd.locked 0)
must_stay ForLink flag nd = is_bottom nd.next

-- the number that a wait is answered with
abbrev pub wait_number : Wait → ℕ
wait_number NoWait = done
wait_number ForFlag = must_wait
wait_number ForUnlock = must_wait
wait_number ForLink = must_wait

-- ---- the table of refusals

-- the refusals of a line that follows node k and is given node n
abbrev pub refusals : State → Line → NodeNo → NodeNo → List Refusal
refusals s r k n =
    let sh = s.shared in
    let c = counts r.act in
    wrong_node if bad_node c sh.nodes n
    ∷ no_entry_left if no_entry c sh.entered
    ∷ node_taken if taken_node c sh.used n
    ∷ followed_empty if follows_empty r.follow k
    ∷ followed_unused if follows_unused sh.used k
    ∷ no_place_left if no_place c sh.high sh.low
    ∷ wait_number r.wait if must_stay r.wait sh.flag (node_at s k)
    ∷ []

unfoldable pub refusal : State → Line → NodeNo → NodeNo → ℕ
refusal s r k n = first_of (refusals s r k n)
