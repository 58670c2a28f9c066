-- No second result fits a promise of the form "the result is what .. gives": the one lemma that every call's theorem `one-result` cites.
-- Assumes nothing.
use Rattle.std.specs.Prelude.{◌≡◌}
use Rattle.std.proofs.Common.{sym, ◌∙◌}

pub only : {A : Type 0} {promised r r' : A} → r ≡ promised → r' ≡ promised → r ≡ r'
only p q = p ∙ sym q
