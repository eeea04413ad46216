-- What is left to walk from this thread, with the links that are left, is the whole walk.
use Prim.Native.Nat.{◌-◌}
use Rattle.tables.proofs.Walks.{Walked}
use Rattle.tables.proofs.walk.walk.Given as goal

abbrev pub invariant-loop-chain : goal.invariant-loop-chain
invariant-loop-chain l = Walked l.threads l.live l.from l.chain l.at

abbrev pub decreases-loop-chain : goal.decreases-loop-chain
decreases-loop-chain l = l.live - l.chain.links
