-- Round after round, until a pass leaves out none.
use Prim.Native.Nat.{◌-◌}
use Rattle.rules.specs.Shorten.{shortened}
use Rattle.event_file.specs.Left.{events_at}
use Rattle.shorten_sheet.proofs.Shortening.{Round}
use Rattle.shorten_sheet.proofs.rounds.shorten.Given as goal

abbrev pub invariant-loop-asked : goal.invariant-loop-asked
invariant-loop-asked l = Round l.number l.initial.work l.work l.from l.to (shortened l.number (events_at 5 l.initial.work))

abbrev pub decreases-loop-asked : goal.decreases-loop-asked
decreases-loop-asked l = l.to - l.from
