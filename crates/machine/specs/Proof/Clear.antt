-- A refusal of 0, taken apart: each of its tests fails. From it, that there is room for what the line counts up. Assumes nothing.
use Rattle.std.specs.Prelude.{Bool, cond, false, true, ◌≡◌, refl, ℕ, suc, ◌<◌}
use Rattle.std.proofs.Common.{arith, leb-false}
use Rattle.lines.specs.Lines.{Line}
use Rattle.lines.specs.declared.Wait.{Wait}
use Rattle.lines.specs.declared.Wait.TheVariants.{ForFlag, ForLink, ForUnlock, NoWait}
use Rattle.lock.specs.State.{node_at}
use Rattle.lock.specs.declared.Node.{Node}
use Rattle.lock.specs.declared.State.{State}
use Rattle.number.specs.Sizes.{last_place, most_entries}
use Rattle.number.specs.declared.NodeNo.{NodeNo}
use Rattle.machine.specs.Refusals.{Count, bad_node, counts, follows_empty, follows_unused, must_stay, no_entry, no_place, refusal, taken_node, wait_number}
use Rattle.machine.specs.Refusals.Count.{Entries, High, Low, Nothing}

-- no refusal applies to the line that follows node k and is given node n
pub record Clear (s : State) (r : Line) (k n : NodeNo) : Type 0 where
  pub node : bad_node (counts r.act) s.shared.nodes n ≡ false
  pub entry : no_entry (counts r.act) s.shared.entered ≡ false
  pub free : taken_node (counts r.act) s.shared.used n ≡ false
  pub there : follows_empty r.follow k ≡ false
  pub used : follows_unused s.shared.used k ≡ false
  pub place : no_place (counts r.act) s.shared.high s.shared.low ≡ false
  pub go : must_stay r.wait s.shared.flag (node_at s k) ≡ false

-- a test whose number is not 0 fails where the answer is 0
pub passed : (b : Bool) (a later : ℕ) → cond b (suc a) later ≡ 0 → (b ≡ false) × (later ≡ 0)
passed true a later h = absurd (omega arith)
passed false a later h = (refl, h)

-- a line that waits has a number for it
waited : (wait : Wait) (flag : ℕ) (nd : Node) → cond (must_stay wait flag nd) (wait_number wait) 0 ≡ 0 → must_stay wait flag nd ≡ false
waited NoWait flag nd h = refl
waited ForFlag flag nd h = (passed (must_stay ForFlag flag nd) 11 0 h).0
waited ForUnlock flag nd h = (passed (must_stay ForUnlock flag nd) 11 0 h).0
waited ForLink flag nd h = (passed (must_stay ForLink flag nd) 11 0 h).0

pub clear : (s : State) (r : Line) (k n : NodeNo) → refusal s r k n ≡ 0 → Clear s r k n
unfolding refusal
clear s r k n h =
    let sh = s.shared in
    let c = counts r.act in
    let r6 = passed (bad_node c sh.nodes n) 5 _ h in
    let r7 = passed (no_entry c sh.entered) 6 _ r6.1 in
    let r8 = passed (taken_node c sh.used n) 7 _ r7.1 in
    let r9 = passed (follows_empty r.follow k) 8 _ r8.1 in
    let r10 = passed (follows_unused sh.used k) 9 _ r9.1 in
    let r11 = passed (no_place c sh.high sh.low) 10 _ r10.1 in
    record {
      node = r6.0;
      entry = r7.0;
      free = r8.0;
      there = r9.0;
      used = r10.0;
      place = r11.0;
      go = waited r.wait sh.flag (node_at s k) r11.1;
    }

-- ---- the limits that are not met leave room for what is counted up
abbrev pub Room : Count → State → Type 0
Room Nothing s = Unit {0}
Room Entries s = s.shared.entered < most_entries
Room High s = s.shared.high.0 < last_place
Room Low s = s.shared.low.0 < last_place

pub room : (c : Count) (s : State) → no_entry c s.shared.entered ≡ false → no_place c s.shared.high s.shared.low ≡ false → Room c s
room Nothing s e p = tt
room Entries s e p = leb-false most_entries s.shared.entered e
room High s e p = leb-false last_place s.shared.high.0 p
room Low s e p = leb-false last_place s.shared.low.0 p
