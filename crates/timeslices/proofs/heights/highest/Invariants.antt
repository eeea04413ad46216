-- The best so far and the highest of the entries still to look at give the whole.
use Rattle.timeslices.proofs.Searches.{Scanned}
use Rattle.timeslices.proofs.heights.highest.Given as goal

abbrev pub invariant-loop-i : goal.invariant-loop-i
invariant-loop-i l = Scanned l.set l.codes l.heights l.i-end l.best l.i
