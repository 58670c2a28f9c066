-- What the crate's inner functions ask for and give; no call of document 01 is promised by these. Assumes nothing.
use Rattle.std.specs.Prelude.{Bool, List, ◌++◌, ◌≡◌, ℕ, ◌≤◌, drop, length, take}
use Rattle.lock.specs.Valid.{Valid}
use Rattle.lock.specs.declared.State.{State}
use Rattle.number.specs.Sizes.{most_nodes, most_threads}
use Rattle.rows.specs.Rows.{Kind, Lawful, letter_l, values}
use Rattle.saved.specs.Saved.{bytes_of, node_record, size_of, thread_record}

-- A kind of record has this width, is marked by L and this letter, and holds its values to this range; reading and writing undo each other.
pub record IsRecord {A : Type 0} (width letter : ℕ) (in_range : A → Bool) (kind : Kind A) : Type 0 where
  pub wide : kind.width ≡ width
  pub mark₁ : kind.mark₁ ≡ letter_l
  pub mark₂ : kind.mark₂ ≡ letter
  pub marked : 2 ≤ width
  pub ranged : (x : A) → kind.in_range x ≡ in_range x
  pub lawful : Lawful kind

-- There is room for the bytes of s at the start of out, and the tables of s have the nodes and the threads that it says it has.
pub record Room (s : State) (out : List ℕ) : Type 0 where
  pub nodes : s.shared.nodes ≤ most_nodes
  pub threads : s.shared.threads ≤ most_threads
  pub long : size_of s ≤ length out

-- The bytes of s stand at the start of r, which has room for them; and s, whose tables are those of its type, is as the rule says.
pub record LaidIn (s : State) (r : List ℕ) : Type 0 where
  pub rule : Valid s
  pub bytes : take (size_of s) r ≡ bytes_of s
  pub fits : size_of s ≤ length r

-- s with what the first n records of b say in place of its first n nodes
abbrev pub with_nodes : State → ℕ → List ℕ → State
with_nodes s n b =
    record { shared = s.shared; node = values (node_record s.shared.nodes) n b ++ drop n s.node; thread = s.thread }

-- s with what the first n records of b say in place of its first n threads
abbrev pub with_threads : State → ℕ → List ℕ → State
with_threads s n b =
    record { shared = s.shared; node = s.node; thread = values (thread_record s.shared.nodes) n b ++ drop n s.thread }
