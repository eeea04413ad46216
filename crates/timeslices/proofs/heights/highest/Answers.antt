-- The best so far and the highest of the entries still to look at give the whole.
use Rattle.timeslices.proofs.Searches.{scan_none, scan_one, scanned}
use Rattle.timeslices.proofs.heights.highest.Goals as goal

pub loop-i-init : goal.loop-i-init
loop-i-init c = scan_none _ _ _ _

pub loop-i-preserved : goal.loop-i-preserved
loop-i-preserved c = scan_one _ _ _ _ _ _ _ _ c.loop-i.invariant c.loop-i-test.true c.weight.ensures c.max-best.ensures

pub returns : goal.returns
returns c = rw (← c.entries-i-end.ensures) (scanned _ _ _ _ _ _ c.loop-i.invariant c.loop-i-test.false)
