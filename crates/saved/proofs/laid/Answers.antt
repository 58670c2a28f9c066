-- `saved::laid` meets its contract: a state that passes its test has at most 503 bytes, so there is room, and its bytes are the first of those that are
-- written over the buffer. Assumes nothing.
use Rattle.std.proofs.Common.{◌≡◌, arith, length, take_at, true}
use Rattle.lock.specs.Judged.{valid_rule}
use Rattle.lock.specs.Laws.{length_mapped}
use Rattle.lock.specs.State.{table_size}
use Rattle.lock.specs.Valid.{Valid, valid}
use Rattle.lock.specs.declared.State.{State}
use Rattle.saved.specs.Proof.Save.{room}
use Rattle.saved.specs.Saved.{bytes_of, size_of}
use Rattle.saved.specs.Theorems.{saved_size}
use Rattle.saved.proofs.laid.Goals as goal

-- a state with tables of their size that passes its test is valid
ruled : (s : State) → length s.node ≡ table_size → length s.thread ≡ table_size → valid s ≡ true → Valid s
ruled s nodes threads = valid_rule s (record { nodes = nodes; threads = threads })

pub put_state-requires : goal.put_state-requires
put_state-requires c =
    let s = c.args.s in
    room s _ c.requires (saved_size s (ruled s (search length_mapped) (search length_mapped) c.requires)).1

pub returns-clause-laid : goal.returns-clause-laid
returns-clause-laid c =
    let s = c.args.s in
    let rule = ruled s (search length_mapped) (search length_mapped) c.requires in
    let size = saved_size s rule in
    record { rule = rule; bytes = rw c.put_state.ensures (take_at (bytes_of s) _ (size_of s) size.0); fits = omega (arith, size.1, c.put_state.auto.out) }
