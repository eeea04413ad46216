-- Each thread is looked at once, and its link into n is cut.
use Rattle.rules.specs.Threads.{links_cut}
use Rattle.tables.proofs.Mapping.{begin, next, done}
use Rattle.tables.proofs.threads.links_cut.Goals as goal

pub loop-k-init : goal.loop-k-init
loop-k-init c = begin _ _ _ c.well_formed.0.1.0.1

pub loop-k-preserved : goal.loop-k-preserved
loop-k-preserved c =
    next _ _ _ _ _ _ c.loop-k.invariant c.loop-k-test.true c.cut_from.ensures

pub returns : goal.returns
unfolding links_cut
returns c = done _ _ _ _ _ c.loop-k.invariant c.loop-k-test.false
