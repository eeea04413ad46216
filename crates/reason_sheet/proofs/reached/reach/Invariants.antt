-- The events that are left lead to the machine asked for; where none is found, or none was asked for, there is no such event.
use Prim.Native.Nat.{◌-◌}
use Rattle.reason_sheet.proofs.Replaying.{Going}
use Rattle.reason_sheet.proofs.reached.reach.Given as goal

abbrev pub invariant-loop : goal.invariant-loop
invariant-loop l = Going l.file l.number l.offset (l.number - l.counter) l.machine
