-- The first of the turn order whose timeslice has this owner decides; past the end of the table the owner is 0.
use Prim.Native.Nat.{◌-◌}
use mathlib.Core.List.{map}
use Rattle.rules.specs.Timeslices.{own_of}
use Rattle.tables.specs.Timeslices.{slice_of}
use Rattle.neighbours.proofs.Stepping.{Along}
use Rattle.timeslices.proofs.search.own.Given as goal

abbrev pub invariant-loop : goal.invariant-loop
invariant-loop l = Along (λ ls. own_of (map slice_of l.timeslices) l.n ls) l.after l.live (l.end - l.counter) l.at
