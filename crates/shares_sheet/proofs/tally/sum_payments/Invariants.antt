-- The units counted and those of the events that are left make the whole; where no event is found, all is counted.
use Prim.Native.Nat.{◌-◌}
use lib.ListN.{length}
use Rattle.shares_sheet.proofs.Tallying.{Going}
use Rattle.shares_sheet.proofs.tally.sum_payments.Given as goal

abbrev pub invariant-loop-event : goal.invariant-loop-event
invariant-loop-event l = Going l.file l.offset l.machine l.units l.total

abbrev pub decreases-loop-event : goal.decreases-loop-event
decreases-loop-event l = length l.file - l.offset
