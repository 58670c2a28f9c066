-- `saved::good` meets its contract: behind the two tests of the length, the tests are what the calls ensure. Assumes nothing.
use Rattle.std.proofs.Common.{ap, ◌∙◌, eq-eqb}
use Rattle.lock.specs.declared.Shared.{Shared}
use Rattle.saved.specs.Proof.Kinds.{from_there}
use Rattle.saved.specs.Saved.{good_by, size}
use Rattle.saved.proofs.good.Goals as goal

pub returns : goal.returns
unfolding good_by
returns c =
    let asked = c.size.ensures ∙ ap (λ (sh : Shared). size sh.threads sh.nodes) c.header_in-sh.ensures in
    simp (
      eq-eqb _ _ (c.if-bytes-size.false ∙ asked),
      c.all_good-2.ensures,
      c.all_good.ensures,
      c.shared_valid.ensures,
      c.marked.ensures,
      from_there,
      c.threads_place.ensures,
      c.header_in-sh.ensures,
    )
