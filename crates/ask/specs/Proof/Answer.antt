-- What a question gives, case by case: its value in a valid state and refusal 1 in any other; the numbers of a chain question, and what it gives and
-- writes by its number. Rests on FirstThat (crate `number`) and on the rule of a state. Assumes nothing.
use Rattle.std.specs.Prelude.{false, true, List, ◌≢◌, ◌↔◌, ◌≡◌, refl, ℕ, ◌≤◌, ◌<◌, get_or, length}
use Rattle.std.proofs.Common.{arith, le-ltb, lt-ltb, ltb-false, ne_eqb}
use Rattle.lock.specs.Judged.{in_table, judges_outside, judges_state, rule_valid, valid_rule}
use Rattle.lock.specs.Valid.{Between, Sized, Valid, valid}
use Rattle.lock.specs.declared.State.{State}
use Rattle.number.specs.FirstThat.{judges_short, none_holds, number_exactly}
use Rattle.number.specs.Refused.{bad_state, done, too_short, wrong_node}
use Rattle.number.specs.Tests.{cannot_hold}
use Rattle.number.specs.declared.NodeNo.{NodeNo}
use Rattle.rows.specs.Rows.{over}
use Rattle.rows.specs.Stored.{over_later}
use Rattle.ask.specs.Ask.{answered, chain, chain_bytes, chain_from, chain_list, chain_number, chain_refusals, is_outside, judged, refused}
use Rattle.ask.specs.Meaning.{First, chain_conditions}

-- ---- a question that judges its state

-- In a valid state the question has its value.
pub judged_valid : (s : State) (value : ℕ) → Valid s → judged s value ≡ answered value
judged_valid s value rule = rw (rule_valid s rule)

-- Any other state gives 1 and value 0.
pub judged_refused : (s : State) (value : ℕ) → Sized s → ¬ Valid s → judged s value ≡ refused bad_state
judged_refused s value sized broken =
    rw (cannot_hold (valid s) (λ h. broken (valid_rule s sized h)))

-- ---- the numbers of a chain question
module _ (s : State) (from : NodeNo) (room : ℕ) where
  -- Where it gives 0, the output has room for K numbers, and the chain starts at a node 1 to K.
  pub enough : chain_number s from room ≡ done → (s.shared.nodes ≤ room) × Between 1 from.0 s.shared.nodes
  unfolding chain_number
  enough h =
      let off = none_holds (chain_refusals s from room) (omega arith) h in
      (ltb-false _ _ off.1.0, in_table from.0 s.shared.nodes off.1.1.0)

  -- Each number is given exactly when document 01 says: each test says what its condition says.
  pub exactly : Sized s → (m : ℕ) → (chain_number s from room ≡ m) ↔ First (chain_conditions s from room) m
  unfolding chain_number
  exactly sized =
      number_exactly (chain_refusals s from room) (chain_conditions s from room)
      (judges_state s sized, λ j1. (judges_short room s.shared.nodes, λ j4. (judges_outside wrong_node from.0 s.shared.nodes, λ j6. tt)))

-- ---- what a chain question gives
module _ (s : State) (from : NodeNo) (out : List ℕ) where
  -- Where it is not refused, the list of at most K nodes.
  pub chain_accepted : chain_number s from (length out) ≡ done
      → let list = chain_from s.shared.nodes s from in
      (chain s from out ≡ answered (length list)) × (chain_bytes s from out ≡ over list out)
  unfolding chain chain_bytes chain_list
  chain_accepted e = rw e (refl, refl)

  -- Where it is refused, value 0 and no bytes.
  pub chain_refused : chain_number s from (length out) ≢ done
      → (chain s from out ≡ refused (chain_number s from (length out))) × (chain_bytes s from out ≡ out)
  unfolding chain chain_bytes chain_list
  chain_refused n = rw (ne_eqb (chain_number s from (length out)) done n) (refl, refl)

  -- So it is where the state breaks a rule.
  pub refuses_chain : valid s ≡ false → (refused bad_state ≡ chain s from out) × (out ≡ chain_bytes s from out)
  unfolding chain chain_bytes chain_list chain_number
  refuses_chain bad = rw bad (refl, refl)

  -- In a valid state: where the output is too short, ..
  pub chain_short : Valid s → length out < s.shared.nodes → (refused too_short ≡ chain s from out) × (out ≡ chain_bytes s from out)
  unfolding chain chain_bytes chain_list chain_number
  chain_short rule short = rw (rule_valid s rule, lt-ltb _ _ short) (refl, refl)

  -- .. else where the chain starts at no node, ..
  pub chain_outside : Valid s → s.shared.nodes ≤ length out → is_outside s.shared.nodes from ≡ true
      → (refused wrong_node ≡ chain s from out) × (out ≡ chain_bytes s from out)
  unfolding chain chain_bytes chain_list chain_number
  chain_outside rule room off = rw (rule_valid s rule, le-ltb _ _ room, off) (refl, refl)

  -- .. and else.
  pub chain_given : Valid s → s.shared.nodes ≤ length out → is_outside s.shared.nodes from ≡ false
      → let list = chain_from s.shared.nodes s from in
      (answered (length list) ≡ chain s from out) × (over list out ≡ chain_bytes s from out)
  unfolding chain chain_bytes chain_list chain_number
  chain_given rule room on = rw (rule_valid s rule, le-ltb _ _ room, on) (refl, refl)

  -- From the list's end on every byte is as it was.
  pub bytes_stay : (i : ℕ) → (chain s from out).value ≤ i → get_or (chain_bytes s from out) i 0 ≡ get_or out i 0
  unfolding chain chain_bytes
  bytes_stay i h = over_later (chain_list s from (length out)) out i h
