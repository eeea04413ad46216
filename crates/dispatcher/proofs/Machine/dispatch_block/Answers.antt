-- Refused where nothing runs; else one hold changes, and a choice follows.
use mathlib.Core.Path.{refl}
use Rattle.rules.specs.declared.Hold.TheVariants.{Blocked}
use Rattle.rules.specs.declared.Event.TheVariants.{Block}
use Rattle.rules.specs.declared.refusal.Refusal.TheVariants.{NothingRuns}
use Rattle.rules.specs.State.{with_threads}
use Rattle.rules.specs.Threads.{set_hold}
use Rattle.rules.specs.Events.{block, chooses_in}
use Rattle.rules.proofs.Tables.Writes.{hold_relabels}
use Rattle.dispatcher.specs.Shown.{shown}
use Rattle.dispatcher.proofs.Stored.{sound_stored}
use Rattle.dispatcher.proofs.Answering.{refuse, accept, chosen}
use Rattle.dispatcher.proofs.ThreadChanges.{choosable, threads_to, threads_shown, threads_exact}
use Rattle.dispatcher.proofs.Machine.dispatch_block.Goals as goal

pub returns-in_default : goal.returns-in_default
returns-in_default c = refuse _ _ NothingRuns (rw c.in_default.is refl)

pub choose-requires : goal.choose-requires
choose-requires c =
    choosable _ (threads_exact c.args.self.now _ _ (sound_stored _ c.requires) c.with_hold-self.ensures (hold_relabels _ _ _).count)

pub returns : goal.returns
unfolding block
returns c =
    let m = c.args.self.now in
    accept Block m c.requires (rw c.in-Runs.is refl)
    (chooses_in (with_threads (set_hold c.in-Runs.thread Blocked m.threads) (shown m))) (rw c.in-Runs.is refl) _
    (chosen (threads_to _ m) 0 _ _ (threads_shown m _ _ c.with_hold-self.ensures) c.choose.ensures)
