-- Each refusal is the first that fits; past them the timeslice is detached, takes the priority and goes to the back, and a choice follows.
use mathlib.Core.Path.{refl}
use Rattle.std.proofs.lemmas.Result.{err_from_is_err_and}
use Rattle.rules.specs.declared.Event.TheVariants.{Rank}
use Rattle.rules.specs.Events.{rank}
use Rattle.dispatcher.specs.Shown.{shown}
use Rattle.dispatcher.proofs.Stored.{sound_stored, turns_linked}
use Rattle.neighbours.specs.Sides.{sides}
use Rattle.dispatcher.proofs.Answering.{refuse, accept, chosen}
use Rattle.dispatcher.proofs.Refusing.{listed_there, none_listed}
use Rattle.dispatcher.proofs.TimesliceChanges.{moved_to, turned_exact, turned_shown, rank_shown}
use Rattle.dispatcher.proofs.ThreadChanges.{choosable}
use Rattle.dispatcher.proofs.Machine.dispatch_rank.Goals as goal

pub returns-in_err-check_listed : goal.returns-in_err-check_listed
returns-in_err-check_listed c =
    let p = err_from_is_err_and c.from_residual.result c.from_residual.ensures.1 in
    rw (p.1, p.2)
    (refuse _ _ _ (none_listed c.args.self.now (sound_stored _ c.requires) _ _ _ _ c.check_listed.ensures c.in_err-check_listed.was))

pub choose-requires : goal.choose-requires
choose-requires c =
    let m = c.args.self.now in
    let ok = sound_stored m c.requires in
    let listed = (listed_there m ok _ _ _ c.check_listed.ensures c.in_ok-check_listed.was).1 in
    choosable _ (turned_exact m _ _ _ ok listed (c.move_back.ensures.turned (shown m).order (turns_linked m ok) listed))

pub returns : goal.returns
unfolding rank
returns c =
    let m = c.args.self.now in
    let ok = sound_stored m c.requires in
    let there = listed_there m ok _ _ _ c.check_listed.ensures c.in_ok-check_listed.was in
    let back = c.move_back.ensures.turned (shown m).order (turns_linked m ok) there.1 in
    let turned = sides c.move_back.new.before c.move_back.new.after in
    accept (Rank c.args.t c.args.priority) m c.requires
    (rw (there.0, there.1) refl)
    (rank c.args.t c.args.priority (shown m)) refl _
    (chosen (moved_to m.threads c.with_priority-self.result turned m) 0 _ _
    (rank_shown m c.args.t c.args.priority _ _ turned c.detached-apart.ensures c.with_priority-self.ensures
    (turned_shown m c.args.t turned m.timeslices ok there.1 back))
    c.choose.ensures)
