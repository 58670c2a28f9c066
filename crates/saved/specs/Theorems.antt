-- What reading and saving promise: the theorems that a buyer needs, each under a plain sentence. The arguments are in Proof. Assumes nothing.
use Rattle.std.specs.Prelude.{List, ◌≢◌, ◌↔◌, ◌≡◌, ℕ, ◌≤◌, drop, length, take}
use Rattle.std.proofs.Common.{ap, sym, ◌∙◌, arith}
use Rattle.lock.specs.Fresh.{opened}
use Rattle.lock.specs.State.{zero_state}
use Rattle.lock.specs.Valid.{Sized, Valid}
use Rattle.lock.specs.Fresh.{Opened}
use Rattle.lock.specs.declared.State.{State}
use Rattle.number.specs.First.{First}
use Rattle.number.specs.OneResult.{only}
use Rattle.number.specs.Refused.{bad_state, done}
use Rattle.rows.specs.Rows.{Bytes}
use Rattle.saved.specs.Proof.File
use Rattle.saved.specs.Proof.Read
use Rattle.saved.specs.Proof.ReadSave
use Rattle.saved.specs.Proof.Save
use Rattle.saved.specs.Proof.SaveRead
use Rattle.saved.specs.Proof.Size
use Rattle.saved.specs.Saved.{SavedFile, bytes_of, header_in, read, save_conditions, save_number, saved_over, size_of, state_by}

-- ---- reading

-- A file is read exactly if it is as the rule of document 01 says.
pub good_file : (b : List ℕ) → ((read b).number ≡ done) ↔ SavedFile b
good_file b = (λ h. File.good_rule b (Read.done_good b h), λ f. ap (λ (r : Opened). r.number) (Read.good_read b (File.rule_good b f)))

-- What is read is valid.
pub read_valid : (b : List ℕ) → (read b).number ≡ done → Valid (read b).state
read_valid b h =
    let good = Read.done_good b h in
    rw (Read.good_read b good) (SaveRead.state_valid (header_in b) b good)

-- A file that is read has exactly as many bytes as the T and K of its state ask for.
pub read_size : (b : List ℕ) → (read b).number ≡ done → length b ≡ size_of (read b).state
unfolding state_by
read_size b h =
    let good = Read.done_good b h in
    rw (Read.good_read b good) (File.good_rule b good).exact

-- A refused reading gives 1 and a state with 0 everywhere.
pub read_refused : (b : List ℕ) → (read b).number ≢ done → read b ≡ opened bad_state zero_state
read_refused = Read.bad_read

-- Two results that both meet the promise of a reading are equal.
pub read_one_result : (b : List ℕ) (r r' : Opened) → r ≡ read b → r' ≡ read b → r ≡ r'
read_one_result b r r' = only

-- ---- read and save undo each other

-- The bytes of a valid state are read, as that state.
pub read_save : (s : State) → Valid s → read (bytes_of s) ≡ opened done s
read_save = ReadSave.read_save

-- What was read is written with the same bytes.
pub save_read : (b : List ℕ) → Bytes b → (read b).number ≡ done → bytes_of (read b).state ≡ b
save_read b bytes h =
    let good = Read.done_good b h in
    rw (Read.good_read b good) (SaveRead.save_read b bytes good)

-- So the files that are read are exactly the bytes of the valid states ..
pub saved_exactly : (b : List ℕ) → Bytes b → ((read b).number ≡ done) ↔ ((s : State) × Valid s × (b ≡ bytes_of s))
saved_exactly b bytes = (
  λ h. ((read b).state, read_valid b h, sym (save_read b bytes h)),
  λ w. ap (λ (c : List ℕ). (read c).number) w.2 ∙ ap (λ (r : Opened). r.number) (read_save w.0 w.1),
)

-- .. and two valid states with the same bytes are equal.
pub saved_once : (s s' : State) → Valid s → Valid s' → bytes_of s ≡ bytes_of s' → s ≡ s'
saved_once s s' v v' e =
    ap (λ (r : Opened). r.state) (sym (read_save s v) ∙ ap read e ∙ read_save s' v')

-- ---- saving

-- A saved state has exactly 23 + 4K + 11T bytes, at most 503.
pub saved_size : (s : State) → Valid s
    → (length (bytes_of s) ≡ size_of s) × (size_of s ≤ 503)
saved_size s v = (Size.length_bytes s v.sized v.shared.nodes.to v.shared.threads.to, omega (arith, v.shared))

-- The number of a save is that of the first of its conditions that applies: 1, the state breaks a rule; 4, the output is too short ..
pub save_exactly : (s : State) (out : List ℕ) → Sized s → (m : ℕ) → (save_number s out ≡ m) ↔ First (save_conditions s out) m
save_exactly = Save.exactly

-- .. and 0 exactly if the state is valid and the output is long enough.
pub save_done : (s : State) (out : List ℕ) → Sized s → (save_number s out ≡ done) ↔ (Valid s × (size_of s ≤ length out))
save_done = Save.done_exactly

-- An accepted save puts the saved state at the start of the output, and the bytes after it stay.
pub save_accepted : (s : State) (out : List ℕ) → Sized s → save_number s out ≡ done
    → let n = size_of s in (take n (saved_over s out) ≡ bytes_of s) × (drop n (saved_over s out) ≡ drop n out)
save_accepted = Save.written

-- Saving and then reading gives the state back ..
pub save_then_read : (s : State) (out : List ℕ) → Sized s → save_number s out ≡ done → read (take (size_of s) (saved_over s out)) ≡ opened done s
save_then_read s out sized h = ap read (save_accepted s out sized h).0 ∙ read_save s ((save_done s out sized).0 h).0

-- .. and reading and then saving, into an output that is long enough, gives the same bytes back.
pub read_then_save : (b out : List ℕ) → Bytes b → (read b).number ≡ done → length b ≤ length out
    → let s = (read b).state in (save_number s out ≡ done) × (take (length b) (saved_over s out) ≡ b) × (drop (length b) (saved_over s out) ≡ drop (length b) out)
read_then_save b out bytes h l =
    let s = (read b).state in
    let valid = read_valid b h in
    let accepted = (save_done s out valid.sized).1 (valid, rw (read_size b h) at l) in
    let written = rw (← read_size b h) at (save_accepted s out valid.sized accepted) in
    (accepted, written.0 ∙ save_read b bytes h, written.1)

-- A refused save leaves every byte of the output unchanged.
pub save_refused : (s : State) (out : List ℕ) → save_number s out ≢ done → saved_over s out ≡ out
save_refused = Save.unchanged

-- Two results that both meet the promise of a save are equal: the number, and the bytes of the output.
pub save_one_result : (s : State) (out : List ℕ) (r r' : ℕ) (after after' : List ℕ) → (r ≡ save_number s out) × (after ≡ saved_over s out)
    → (r' ≡ save_number s out) × (after' ≡ saved_over s out) → (r ≡ r') × (after ≡ after')
save_one_result s out r r' after after' p q = (only p.0 q.0, only p.1 q.1)
