-- `show::print` is safe: the text's length is at most that of the buffer (crate `text`, `text_within`). Assumes nothing.
use Rattle.std.proofs.Common.{◌≡◌, ◌≤◌, List, ap, arith, length, sym, ℕ}
use Rattle.std.proofs.Math.Seq.{length-take-le}
use Rattle.text.specs.Text.{text}
use Rattle.text.specs.Theorems.{text_within}
use Rattle.text.specs.Written.{Written}
use Rattle.show.proofs.print.Goals as goal

-- there are so many bytes in the buffer
within : (schedule out out' : List ℕ) (w : Written) → w ≡ text schedule out → length out' ≡ length out → w.size ≤ length out'
within schedule out out' w gives long = omega (arith, ap (λ (x : Written). x.size) gives, text_within schedule out, long)

pub slice_bounds-write-end : goal.slice_bounds-write-end
slice_bounds-write-end c = within c.args.schedule.now c.args.out.now _ _ c.in-Ok.ensures.gives c.text.auto.out

pub slice_bounds-write-end-in-Ok : goal.slice_bounds-write-end-in-Ok
slice_bounds-write-end-in-Ok c =
    sym (length-take-le _ _ (within c.args.schedule.now c.args.out.now _ _ c.in-Ok.ensures.gives c.text.auto.out))
