-- `saved::put_state` meets its contract. The three parts are stored one behind the other, and are the whole (Size). Assumes nothing.
use Rattle.std.proofs.Common.{◌∙◌}
use Rattle.lock.specs.Laws.{length_mapped}
use Rattle.lock.specs.Valid.{Sized}
use Rattle.saved.specs.Proof.Size.{stored_parts}
use Rattle.saved.proofs.put_state.Goals as goal

pub returns : goal.returns
returns c =
    let s = c.args.s in
    let K = s.shared.nodes in
    let sized : Sized s = record { nodes = search length_mapped; threads = search length_mapped } in
    c.put_all-2.ensures K
    ∙ rw (c.put_all.ensures K, c.put.ensures, c.header_bytes.ensures, c.threads_place.ensures)
    (stored_parts s sized c.requires.nodes c.requires.threads c.args.out.now c.requires.long)
