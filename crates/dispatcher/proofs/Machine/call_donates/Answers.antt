-- The donation changes the threads and what runs; those On the server are then released.
use Rattle.rules.specs.Events.{call_donates, releases}
use Rattle.rules.proofs.Tables.Writes.{donate_relabels}
use Rattle.dispatcher.proofs.Answering.{said_of}
use Rattle.dispatcher.proofs.ThreadChanges.{choosable, running_to, running_shown, running_exact}
use Rattle.dispatcher.proofs.Machine.call_donates.Goals as goal

pub waiters_released-requires : goal.waiters_released-requires
waiters_released-requires c =
    choosable _ (running_exact c.args.self.now _ _ _ c.requires.choosable.exact c.donated-self.ensures (donate_relabels _ _ _).count)

pub returns : goal.returns
unfolding call_donates
returns c =
    let m = c.args.self.now in
    said_of (releases c.args.server) (running_to _ _ m) _ _ (running_shown m _ _ _ c.donated-self.ensures) c.waiters_released.ensures
