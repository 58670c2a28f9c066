-- `text::pass`: what is left of the lines, from the present place on, makes them all (`Left`), and the bytes are a saved state.
use Rattle.std.proofs.Common.{true, ◌≡◌}
use Rattle.saved.specs.Saved.{saved_good, state_in}
use Rattle.text.proofs.Passes.{Left}
use Rattle.text.proofs.pass.Given as goal

abbrev pub invariant-loop-i : goal.invariant-loop-i
invariant-loop-i l = record {
  left : Left l.write l.schedule.bytes.now l.fn.out l.out (state_in l.b) l.place l.i;
  good : saved_good l.b ≡ true;
}
