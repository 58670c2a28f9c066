-- A saved state holds the state that is read from it: so what a cell shows is what it says of that state. Rests on the round trip of saved states (crate
-- `saved`). Assumes nothing.
use Rattle.std.specs.Prelude.{true, List, ◌≡◌, ℕ, ◌^◌, ◌≤◌}
use Rattle.std.proofs.Common.{sym, arith, pow_mono}
use Rattle.rows.specs.Rows.{Bytes}
use Rattle.saved.specs.Proof.File.{good_rule}
use Rattle.saved.specs.Proof.Held.{held_valid}
use Rattle.saved.specs.Proof.SaveRead.{save_read}
use Rattle.saved.specs.Saved.{saved_good, state_in}
use Rattle.cells.specs.Cells.{Held, Laid}

pub laid : (b : List ℕ) → saved_good b ≡ true → Laid b
laid b good = record { long = (good_rule b good).exact }

pub held : (b : List ℕ) → Bytes b → saved_good b ≡ true → Held b (state_in b)
held b bytes good =
    let s = state_in b in
    let valid = held_valid b good in
    let range = valid.shared in
    let fits : 2 ^ s.shared.nodes ≤ 2 ^ 32 = pow_mono range.nodes.to in
    record {
      whole = sym (save_read b bytes good);
      nodes = omega (arith, valid.sized.nodes, range.nodes.to);
      threads = omega (arith, valid.sized.threads, range.threads.to);
      fits = (omega (arith, range.low.to), omega (arith, range.high.to), omega (arith, range.entered), omega (arith, range.used));
    }
