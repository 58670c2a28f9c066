-- The number that stands behind 6, 9 and 10, and what is so of a line that waits for a number of its node. Assumes nothing.
use Rattle.std.specs.Prelude.{Bool, cond, false, not, true, ◌||◌, ◌≢◌, ◌≡◌, refl, ℕ, ◌<◌, leb, ltb}
use Rattle.std.proofs.Common.{true≢false, sym, ◌∙◌, arith, leb-false}
use Rattle.figure.specs.Figure.{entered, flag, local}
use Rattle.lines.specs.declared.Follow.{Follow}
use Rattle.lines.specs.declared.Wait.{Wait}
use Rattle.lines.specs.declared.Wait.TheVariants.{ForFlag, ForLink, ForUnlock, NoWait}
use Rattle.lock.specs.State.{node_at}
use Rattle.lock.specs.declared.Node.{Node}
use Rattle.lock.specs.declared.State.{State}
use Rattle.machine.specs.Proof.Clear.{passed}
use Rattle.machine.specs.Refusals.{follows_empty, follows_unused, must_stay, wait_number}
use Rattle.number.specs.Numbers.{is_bottom}
use Rattle.number.specs.Refused.{done, followed_empty, followed_unused, wrong_node}
use Rattle.number.specs.Sizes.{last_place, most_entries}
use Rattle.number.specs.declared.NodeNo.{NodeNo}
use Rattle.number.specs.declared.Place.{Place}
use Rattle.refusals.specs.Stops.{AtNode, choose_stop, place_stop, stop_by}

-- 6, 9 and 10, by whether each applies; else the number behind them
abbrev by_tests : Bool → Bool → Bool → ℕ → ℕ
by_tests x y z m = cond x wrong_node (cond y followed_empty (cond z followed_unused m))

module _ (f : Follow) (s : State) (k n : NodeNo) (later : ℕ) where
  -- where of 6, 9 and 10 none applies, the number is the one behind them ..
  pub clear : stop_by f s k n done ≡ done → stop_by f s k n later ≡ later
  clear = go (not (is_bottom n)) (follows_empty f k) (follows_unused (local s) k)
    where
      go : (x y z : Bool) → by_tests x y z done ≡ done → by_tests x y z later ≡ later
      go true y z h = absurd (omega arith)
      go false true z h = absurd (omega arith)
      go false false true h = absurd (omega arith)
      go false false false h = refl

  -- .. and else it is theirs
  pub unclear : stop_by f s k n done ≢ done → stop_by f s k n later ≡ stop_by f s k n done
  unclear = go (not (is_bottom n)) (follows_empty f k) (follows_unused (local s) k)
    where
      go : (x y z : Bool) → by_tests x y z done ≢ done → by_tests x y z later ≡ by_tests x y z done
      go true y z h = refl
      go false true z h = refl
      go false false true h = refl
      go false false false h = absurd (h refl)

-- by these the lines are proved that have a number behind 6, 9 and 10: 11, or a wait's
pub ruleset behind = (clear, unclear)

-- what follows from X does too, of a line that waits for a number of its node
pub at_node : (w : Wait) {X Y : Type 0} → (X → Y) → AtNode w X → AtNode w Y
at_node NoWait f x = tt
at_node ForFlag f x = tt
at_node ForUnlock f x = f x
at_node ForLink f x = f x

-- ---- the same, told by the numbers

module _ (f : Follow) (s : State) (k n : NodeNo) where
  module _ (later : ℕ) where
    -- the number behind them is 0 as well
    pub later_none : stop_by f s k n later ≡ done → later ≡ done
    later_none h =
        let r6 = passed (not (is_bottom n)) 5 _ h in
        let r9 = passed (follows_empty f k) 8 _ r6.1 in
        (passed (follows_unused (local s) k) 9 _ r9.1).1

  -- behind them stands the wait: its number where the line must wait, else 0
  module _ (w : Wait) where
    abbrev number : ℕ
    number = cond (must_stay w (flag s) (node_at s k)) (wait_number w) done

    pub waits : stop_by f s k n done ≡ done → must_stay w (flag s) (node_at s k) ≡ true → wait_number w ≡ stop_by f s k n number
    waits none must = sym (clear f s k n number none ∙ rw must)

    pub passes : {stop : ℕ} → stop ≡ stop_by f s k n done → stop ≡ done → must_stay w (flag s) (node_at s k) ≡ false → stop ≡ stop_by f s k n number
    passes is none may = none ∙ sym (clear f s k n number (sym is ∙ none) ∙ rw may)

    pub refuses : {stop : ℕ} → stop ≡ stop_by f s k n done → stop ≢ done → stop ≡ stop_by f s k n number
    refuses is some = is ∙ sym (unclear f s k n number (λ z. some (is ∙ z)))

-- a line that must wait has a number for it
pub wait_stops : (w : Wait) (flag : ℕ) (nd : Node) → must_stay w flag nd ≡ true → wait_number w ≢ done
wait_stops NoWait flag nd h z = true≢false (sym h)
wait_stops ForFlag flag nd h z = omega arith
wait_stops ForUnlock flag nd h z = omega arith
wait_stops ForLink flag nd h z = omega arith

-- there is an entry, or a place, to count up to
pub entry_left : (s : State) (n : NodeNo) → choose_stop s n ≡ done → entered s < most_entries
entry_left s n h =
    let r6 = passed (is_bottom n || ltb s.shared.nodes n.0) 5 _ h in
    let r7 = passed (leb most_entries (entered s)) 6 _ r6.1 in
    leb-false most_entries (entered s) r7.0

pub place_left : (p : Place) → place_stop p ≡ done → p.0 < last_place
place_left p h = leb-false last_place p.0 (passed (leb last_place p.0) 10 _ h).0
