-- Each timeslice of the turn order is seen once; what is left to see, from what is found so far, gives the whole.
use Prim.Native.Nat.{◌-◌}
use mathlib.Core.Path.{◌≡◌}
use Rattle.rules.specs.declared.Place.{Place}
use Rattle.timeslices.specs.Codes.{code_of}
use Rattle.timeslices.proofs.Forward.{Seeking}
use Rattle.timeslices.proofs.search.members_of.Given as goal

abbrev pub invariant-loop : goal.invariant-loop
invariant-loop l = (set : Place) → l.c ≡ code_of set → Seeking l.timeslices set l.after l.live l.found (l.end - l.counter) l.at
