-- The choice is made on what the walk released.
use native.Mathlib.Omega.{arith}
use Rattle.dispatcher.specs.Shown.{shown}
use Rattle.dispatcher.proofs.TimesliceChanges.{after_walk_lem}
use Rattle.dispatcher.proofs.Machine.settled_after.Goals as goal

pub choose-requires : goal.choose-requires
choose-requires c = record { exact = c.walk_released.ensures.exact; few = omega (arith, c.from.ensures, c.requires.few) }

pub returns : goal.returns
returns c =
    after_walk_lem c.args.chain c.args.blocked _ c.walk_released.new.self (shown c.args.self.now) _ c.from.ensures
    c.walk_released.ensures.state
    c.choose.ensures
