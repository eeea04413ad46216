-- An event is left at every turn, so a record is found. At the first one nothing may be behind it; later as much as is asked.
use Prim.Native.Nat.{◌-◌, ◌<◌}
use mathlib.Core.Path.{◌≡◌}
use lib.ListN.{length}
use Rattle.dispatcher.specs.Shown.{shown}
use Rattle.event_file.specs.Left.{events_at}
use Rattle.shorten_sheet.proofs.Going.{Along}
use Rattle.shorten_sheet.proofs.reach.reach.Given as goal

abbrev pub invariant-loop-event : goal.invariant-loop-event
invariant-loop-event l =
    Along l.file l.from (shown l.initial.machine) (events_at l.from l.file) l.at l.machine × (l.at < length l.file)
    × (l.at ≡ l.from → l.most ≡ 0)

abbrev pub decreases-loop-event : goal.decreases-loop-event
decreases-loop-event l = length l.file - l.at
