-- Each look runs its timeslice or hands a machine to the next look, with which the rest of the choice is the whole.
use Prim.Native.Nat.{◌-◌}
use Rattle.dispatcher.proofs.ChoiceLoop.{Choosing}
use Rattle.dispatcher.proofs.Machine.choose.Given as goal

abbrev pub invariant-loop : goal.invariant-loop
invariant-loop l = Choosing l.fn.self l.links l.live l.order l.self l.followed (l.end - l.counter) l.codes l.heights
