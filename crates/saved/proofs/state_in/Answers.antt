-- `saved::state_in` meets its contract: the tables with 0 everywhere are filled with what the records say (Tables). Assumes nothing.
use Rattle.saved.specs.Proof.Kinds.{from_there}
use Rattle.saved.specs.Proof.Tables.{filled}
use Rattle.saved.specs.Saved.{header_in}
use Rattle.saved.proofs.state_in.Goals as goal

pub returns : goal.returns
returns c =
    let b = c.args.b.now in
    let K = (header_in b).nodes in
    simp (
      c.fill-2.ensures K,
      c.fill.ensures K,
      c.zero_state-s.ensures,
      from_there,
      c.threads_place-behind.ensures,
      c.header_in-shared.ensures,
    )
    (filled (header_in b) b)
