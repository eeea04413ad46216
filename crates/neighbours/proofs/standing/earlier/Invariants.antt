-- The first of the turn order that is one of the two decides.
use Prim.Native.Nat.{◌-◌}
use Rattle.rules.specs.Order.{earlier as earlier_of}
use Rattle.tables.specs.Turning.{entries_of}
use Rattle.neighbours.proofs.Stepping.{Along}
use Rattle.neighbours.proofs.standing.earlier.Given as goal

abbrev pub invariant-loop : goal.invariant-loop
invariant-loop l = Along (λ ls. earlier_of ls l.a l.b) l.after l.live (entries_of l.live - l.counter) l.at
