-- The timeslices that the iterator has given have been judged, and the topmost of those that may run is known.
use lib.ListN.{take}
use Rattle.rules.specs.Walk.{may_run}
use Rattle.plain_engine.proofs.Judged.{Judged}
use Rattle.plain_engine.proofs.PlainMachine.topmost_runnable.Given as goal

abbrev pub invariant-loop-t : goal.invariant-loop-t
invariant-loop-t l =
    Judged l.self.slices (λ t. may_run l.self.threads l.self.slices t) (take l.self.live l.self.order) l.t-iterator.iter.rest.now l.top
