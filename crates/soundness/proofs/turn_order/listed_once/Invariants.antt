-- No entry passed by stands again later.
use Rattle.rules.specs.Tests.{distinct}
use Rattle.tables.proofs.Along.{Along}
use Rattle.soundness.proofs.turn_order.listed_once.Given as goal

abbrev pub invariant-loop-i : goal.invariant-loop-i
invariant-loop-i l = Along (λ ls. distinct ls) l.live l.order l.i-end l.i
