-- The lines so far and those of the events that are left make the whole; where no event is found, none are left.
use Prim.Native.Nat.{◌-◌}
use lib.ListN.{length}
use Rattle.key_sheet.proofs.Printing.{Going}
use Rattle.key_sheet.proofs.lines.put_lines.Given as goal

abbrev pub invariant-loop-event : goal.invariant-loop-event
invariant-loop-event l = Going l.file l.initial.out l.out l.at l.offset l.number l.machine

abbrev pub decreases-loop-event : goal.decreases-loop-event
decreases-loop-event l = length l.file - l.offset
