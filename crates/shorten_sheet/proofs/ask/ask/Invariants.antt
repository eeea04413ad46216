-- Of the events gone none is refused with the number; the first that is ends the run.
use Prim.Native.Nat.{◌-◌}
use lib.ListN.{length}
use Rattle.dispatcher.specs.Shown.{shown}
use Rattle.shorten_sheet.proofs.Asking.{Asking}
use Rattle.shorten_sheet.proofs.ask.ask.Given as goal

abbrev pub invariant-loop-event : goal.invariant-loop-event
invariant-loop-event l = Asking l.number l.file l.from (shown l.initial.machine) l.at l.machine

abbrev pub decreases-loop-event : goal.decreases-loop-event
decreases-loop-event l = length l.file - l.at
