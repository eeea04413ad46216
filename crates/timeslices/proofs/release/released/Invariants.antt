-- Each timeslice of the turn order is moved if it is in the set; what is left to release from there on gives the places of the whole.
use Prim.Native.Nat.{◌-◌}
use Rattle.tables.specs.Sets.{set_of}
use Rattle.timeslices.proofs.ReleaseLoop.{Moving}
use Rattle.timeslices.proofs.release.released.Given as goal

abbrev pub invariant-loop : goal.invariant-loop
invariant-loop l = Moving (set_of l.set) l.first l.after l.live l.initial.timeslices l.timeslices (l.end - l.counter) l.at
