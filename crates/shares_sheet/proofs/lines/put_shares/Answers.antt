-- The lines so far and those of the numbers that are left make the whole; a number without units has no line.
use Prim.Native.Nat.{◌<◌}
use native.Mathlib.Omega.{arith}
use lib.ListN.{length}
use Rattle.text.proofs.Putting.{same_left, more, done}
use Rattle.shares_sheet.proofs.Sheet.{a_line, no_line, no_lines}
use Rattle.shares_sheet.proofs.lines.put_shares.Goals.{then-units-gt0, else-units-gt0}
use Rattle.shares_sheet.proofs.lines.put_shares.Goals as goal

pub loop-timeslice-preserved : goal.loop-timeslice-preserved
loop-timeslice-preserved c =
    let t = c.loop-timeslice.timeslice in
    let inside : t < length c.args.paid.units = omega (arith, c.loop-timeslice-test.true, c.requires.size) in
    elim c.if-units-gt0.branch [
      | then-units-gt0 w ↦
          rw (w.out-is, w.at-is)
          (more c.loop-timeslice.invariant _ w.put_share-at.ensures
          (a_line c.args.paid.total t c.args.paid.units inside w.if-units-gt0.true))
      | else-units-gt0 w ↦
          rw (w.out-is, w.at-is)
          (same_left c.loop-timeslice.invariant (no_line c.args.paid.total t c.args.paid.units inside w.if-units-gt0.false))
    ]

pub returns : goal.returns
returns c =
    done c.loop-timeslice.invariant
    (no_lines c.args.paid.total c.loop-timeslice.timeslice c.args.paid.units (omega (arith, c.loop-timeslice-test.false, c.requires.size)))
