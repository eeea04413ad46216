-- Each thread is looked at once, and its link into n is cut.
use Rattle.rules.specs.State.{free_thread}
use Rattle.rules.specs.Threads.{cut_from}
use Rattle.tables.proofs.Mapping.{Mapping}
use Rattle.tables.proofs.threads.links_cut.Given as goal

abbrev pub invariant-loop-k : goal.invariant-loop-k
invariant-loop-k l = Mapping (cut_from l.n) free_thread l.initial.threads l.threads l.k
