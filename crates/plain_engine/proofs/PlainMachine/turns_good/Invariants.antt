-- The timeslices passed by have passed the test.
use mathlib.Core.Path.{◌≡◌}
use lib.ListN.{take, drop}
use Rattle.rules.specs.Tests.{all}
use Rattle.plain_engine.specs.Shape.{turn_test}
use Rattle.plain_engine.proofs.PlainMachine.turns_good.Given as goal

abbrev pub invariant-loop-t : goal.invariant-loop-t
invariant-loop-t l =
    all (λ t. turn_test l.self.threads l.self.slices t) (drop l.t-index l.t-items)
    ≡ all (λ t. turn_test l.self.threads l.self.slices t) (take l.self.live l.self.order)
