-- The state that bytes hold, as crates above cite it: good bytes are read as the state in them, which is valid, and bytes that are not good as none that
-- is; the bytes of a valid state hold it. Rests on Read, ReadSave and SaveRead. Assumes nothing.
use Rattle.std.specs.Prelude.{false, true, List, ◌≡◌, ℕ, take}
use Rattle.std.proofs.Common.{ap}
use Rattle.lock.specs.Judged.{rule_valid}
use Rattle.lock.specs.Valid.{Valid, shared_valid, valid}
use Rattle.lock.specs.Fresh.{Opened}
use Rattle.lock.specs.declared.State.{State}
use Rattle.saved.specs.Proof.Read.{good_read}
use Rattle.saved.specs.Proof.ReadSave.{good_bytes, held_bytes}
use Rattle.saved.specs.Proof.SaveRead.{state_valid}
use Rattle.saved.specs.Inner.{LaidIn}
use Rattle.saved.specs.Saved.{bytes_of, header_in, read, saved_good, size_of, state_in}

-- Good bytes are read as the state in them ..
pub good_state : (b : List ℕ) → saved_good b ≡ true → (read b).state ≡ state_in b
good_state b good = ap (λ (o : Opened). o.state) (good_read b good)

-- .. which is as the rule says ..
pub held_valid : (b : List ℕ) → saved_good b ≡ true → Valid (state_in b)
held_valid b good = state_valid (header_in b) b good

-- .. and passes its test.
pub good_valid : (b : List ℕ) → saved_good b ≡ true → valid (read b).state ≡ true
good_valid b good = rw (good_state b good) (rule_valid (state_in b) (held_valid b good))

-- Bytes that are not good are read as a state that does not pass.
pub bad_valid : (b : List ℕ) → saved_good b ≡ false → valid (read b).state ≡ false
unfolding read valid shared_valid
bad_valid b bad = rw bad

-- The bytes of a valid state are good, and hold that state.
pub bytes_good : (b : List ℕ) (z : State) → Valid z → b ≡ bytes_of z → (saved_good b ≡ true) × (state_in b ≡ z)
bytes_good b z rule e = rw e (good_bytes z rule, held_bytes z rule)

-- .. and so are those in use of the buffer that it is laid in.
pub laid_good : {z : State} {b : List ℕ} {size : ℕ} → size ≡ size_of z → LaidIn z b → (saved_good (take size b) ≡ true) × (state_in (take size b) ≡ z)
laid_good is laid = rw is (bytes_good _ _ laid.rule laid.bytes)
