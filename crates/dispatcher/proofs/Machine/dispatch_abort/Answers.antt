-- Each refusal is the first that fits; past them the thread has a link, and the walk begins.
use mathlib.Core.Path.{refl, sym, ◌∙◌, ap}
use Rattle.std.proofs.lemmas.Result.{err_from_is_err_and}
use Rattle.rules.specs.declared.Thread.{Thread}
use Rattle.rules.specs.declared.Event.TheVariants.{Abort}
use Rattle.rules.specs.declared.refusal.Refusal.TheVariants.{NotLinked}
use Rattle.rules.specs.Refusals.{linked}
use Rattle.rules.specs.Events.{abort}
use Rattle.dispatcher.specs.Shown.{shown}
use Rattle.dispatcher.proofs.Stored.{sound_stored}
use Rattle.dispatcher.proofs.Answering.{refuse, accept}
use Rattle.dispatcher.proofs.Refusing.{found, none_live}
use Rattle.dispatcher.proofs.ThreadChanges.{choosable}
use Rattle.dispatcher.proofs.Machine.dispatch_abort.Goals as goal

pub returns-in_err-thread : goal.returns-in_err-thread
returns-in_err-thread c =
    let p = err_from_is_err_and c.from_residual.result c.from_residual.ensures.1 in
    rw (p.1, p.2) (refuse _ _ _ (none_live c.args.n c.args.self.now.threads _ _ (sym c.live_thread.ensures ∙ c.in_err-thread.was)))

pub returns-then-not-is_linked : goal.returns-then-not-is_linked
returns-then-not-is_linked c =
    let f = found c.args.n c.args.self.now.threads _ (sym c.live_thread.ensures ∙ c.in_ok-thread.was) in
    let free = ap (λ (t : Thread). linked t.hold) (sym f.read) ∙ sym c.is_linked.ensures ∙ c.if-not-is_linked.true in
    refuse _ _ NotLinked (rw (f.within, f.live, free) refl)

pub abort_walks-requires : goal.abort_walks-requires
abort_walks-requires c = choosable _ (sound_stored _ c.requires)

pub returns : goal.returns
returns c =
    let m = c.args.self.now in
    let f = found c.args.n m.threads _ (sym c.live_thread.ensures ∙ c.in_ok-thread.was) in
    let held = ap (λ (t : Thread). linked t.hold) (sym f.read) ∙ sym c.is_linked.ensures ∙ c.if-not-is_linked.false in
    accept (Abort c.args.n) m c.requires (rw (f.within, f.live, held) refl) (abort c.args.n (shown m)) refl _ c.abort_walks.ensures
