-- The count so far and the live threads still to come make L.
use Rattle.tables.proofs.Counts.{Counted}
use Rattle.tables.proofs.lives.count_live.Given as goal

abbrev pub invariant-loop-thread : goal.invariant-loop-thread
invariant-loop-thread l = Counted l.fn.threads l.count l.thread-index
