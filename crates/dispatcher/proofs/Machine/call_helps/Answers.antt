-- One hold changes, which keeps L, and a choice follows.
use Rattle.rules.specs.Events.{call_helps}
use Rattle.rules.proofs.Tables.Writes.{hold_relabels}
use Rattle.dispatcher.proofs.Answering.{chosen}
use Rattle.dispatcher.proofs.ThreadChanges.{choosable, threads_to, threads_shown, threads_exact}
use Rattle.dispatcher.proofs.Machine.call_helps.Goals as goal

pub choose-requires : goal.choose-requires
choose-requires c =
    choosable _ (threads_exact c.args.self.now _ _ c.requires.exact c.with_hold-self.ensures (hold_relabels _ _ _).count)

pub returns : goal.returns
unfolding call_helps
returns c =
    let m = c.args.self.now in
    chosen (threads_to _ m) 0 _ _ (threads_shown m _ _ c.with_hold-self.ensures) c.choose.ensures
