-- The count so far and the live threads still to come make L.
use native.Mathlib.Omega.{arith}
use Rattle.tables.proofs.Counts.{none_counted, one_counted, all_counted}
use Rattle.tables.proofs.lives.count_live.Goals.{then-thread, else-thread}
use Rattle.tables.proofs.lives.count_live.Goals as goal

pub loop-thread-init : goal.loop-thread-init
loop-thread-init c = none_counted _

pub loop-thread-preserved : goal.loop-thread-preserved
loop-thread-preserved c =
    one_counted _ _ _ _ c.well_formed.0.1.0.1 c.loop-thread.invariant (omega (arith, c.loop-thread-test.true, c.well_formed.0.1.0.1))
    (elim c.if-thread.branch [
      | then-thread w ↦ rw w.if-thread.true (omega (arith, w.count-is))
      | else-thread w ↦ rw w.if-thread.false (omega (arith, w.count-is))
    ])

pub returns : goal.returns
returns c =
    all_counted _ _ _ c.well_formed.0.1.0.1 c.loop-thread.invariant (omega (arith, c.loop-thread-test.false, c.well_formed.0.1.0.1))
