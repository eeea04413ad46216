-- One event after the other, until so many are gone or none is left.
use Prim.Native.Nat.{◌-◌}
use Rattle.replay.proofs.Dispatching.{Along}
use Rattle.replay.proofs.run_events.Given as goal

abbrev pub invariant-loop : goal.invariant-loop
invariant-loop l = Along l.file l.from l.count l.initial.machine l.machine l.offset l.links (l.count - l.counter)
