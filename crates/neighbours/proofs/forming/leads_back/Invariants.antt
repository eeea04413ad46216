-- Each step back is asked as it is made, so that what is left to ask is the whole.
use Prim.Native.Nat.{◌-◌}
use Rattle.neighbours.specs.Sides.{sides}
use Rattle.neighbours.proofs.Backward.{Asked}
use Rattle.neighbours.proofs.forming.leads_back.Given as goal

abbrev pub invariant-loop : goal.invariant-loop
invariant-loop l = Asked (sides l.before l.after) l.live (l.live - l.counter) l.at
