-- The walk comes first; then the thread is Ready, and those that waited at the walk's end are released.
use mathlib.Core.Path.{◌≡◌}
use native.Mathlib.Omega.{arith}
use lib.ListN.{length}
use Rattle.rules.specs.Threads.{aborted}
use Rattle.rules.specs.Events.{abort}
use Rattle.rules.proofs.Tables.Writes.{aborted_relabels}
use Rattle.tables.proofs.Walks.{walks}
use Rattle.dispatcher.proofs.Stored.{live_is}
use Rattle.dispatcher.proofs.TimesliceChanges.{walked_from}
use Rattle.dispatcher.proofs.ThreadChanges.{threads_shown, threads_exact, few_links}
use Rattle.dispatcher.proofs.Machine.abort_walks.Goals as goal

pub settled_after-requires : goal.settled_after-requires
settled_after-requires c =
    let m = c.args.self.now in
    let full : length m.threads ≡ 128 = omega arith in
    let walked = walks m.threads _ _ _ (live_is m c.requires.exact) c.walk-chain.ensures in
    let kept = (aborted_relabels m.threads c.args.n).count in
    record {
      exact = threads_exact m _ (aborted c.args.n m.threads) c.requires.exact c.aborted-self.ensures kept;
      few = few_links m.threads c.args.n _ full walked;
    }

pub returns : goal.returns
unfolding abort
returns c =
    let m = c.args.self.now in
    let walked = walks m.threads _ _ _ (live_is m c.requires.exact) c.walk-chain.ensures in
    walked_from m.threads c.args.n c.walk-chain.result _ _ _ _ walked c.end_blocked-blocked.ensures
    (threads_shown m _ (aborted c.args.n m.threads) c.aborted-self.ensures) c.settled_after.ensures
