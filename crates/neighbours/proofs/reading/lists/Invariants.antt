-- The first of the turn order that is the timeslice decides.
use Prim.Native.Nat.{◌-◌}
use Rattle.rules.specs.Tests.{member}
use Rattle.tables.specs.Turning.{entries_of}
use Rattle.neighbours.proofs.Stepping.{Along}
use Rattle.neighbours.proofs.reading.lists.Given as goal

abbrev pub invariant-loop : goal.invariant-loop
invariant-loop l = Along (λ ls. member l.t ls) l.after l.live (entries_of l.live - l.counter) l.at
