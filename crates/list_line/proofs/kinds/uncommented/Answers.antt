-- The text up to the first `#`.
use native.Mathlib.Omega.{arith}
use Prim.Native.Nat.{ℕ}
use mathlib.Core.Path.{sym, ap, ◌∙◌}
use lib.ListN.{take}
use lib.Seq.{length-take-le}
use Rattle.list_line.specs.Reading.{hash}
use Rattle.list_line.proofs.Scans.{uncommented_is, end_within}
use Rattle.list_line.proofs.kinds.uncommented.Goals as goal

pub slice_bounds-result-end : goal.slice_bounds-result-end
slice_bounds-result-end c =
    let stop = c.scan-stop.ensures in
    sym (length-take-le _ _ (omega (arith, stop, end_within hash c.args.line.now)))

pub returns : goal.returns
returns c =
    let stop = c.scan-stop.ensures in
    ap (λ (n : ℕ). take n c.args.line.now) (omega (arith, stop)) ∙ sym (uncommented_is c.args.line.now)
