-- By what the walk came to, the Stalled, those On its end or nobody is released.
use mathlib.Core.Path.{refl}
use Rattle.dispatcher.proofs.TimesliceChanges.{walk_looped, walk_blocked}
use Rattle.dispatcher.proofs.Machine.walk_released.Goals as goal

pub returns-then-chain : goal.returns-then-chain
returns-then-chain c = walk_looped c.args.self.now _ _ c.requires _ _ _ c.if-chain.true c.release-self.ensures refl

pub returns-then-blocked : goal.returns-then-blocked
returns-then-blocked c =
    walk_blocked c.args.self.now _ _ c.requires _ _ _ c.if-chain.false c.if-blocked.true c.release-self-then-blocked.ensures refl
