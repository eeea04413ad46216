-- No timeslice passed by is the thread's own.
use mathlib.Core.Path.{◌≡◌}
use lib.ListN.{take, drop}
use Rattle.rules.specs.Timeslices.{own_of}
use Rattle.plain_engine.proofs.PlainMachine.own.Given as goal

abbrev pub invariant-loop-t : goal.invariant-loop-t
invariant-loop-t l = own_of l.self.slices l.n (drop l.t-index l.t-items) ≡ own_of l.self.slices l.n (take l.self.live l.self.order)
