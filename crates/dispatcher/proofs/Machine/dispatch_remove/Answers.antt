-- Each refusal is the first that fits; past them the thread is live, and the walk begins.
use mathlib.Core.Path.{refl, sym, ◌∙◌}
use Rattle.std.proofs.lemmas.Result.{err_from_is_err_and}
use Rattle.rules.specs.declared.Event.TheVariants.{Remove}
use Rattle.rules.specs.Events.{remove}
use Rattle.dispatcher.specs.Shown.{shown}
use Rattle.dispatcher.proofs.Answering.{refuse, accept}
use Rattle.dispatcher.proofs.Refusing.{found, none_live}
use Rattle.dispatcher.proofs.Machine.dispatch_remove.Goals as goal

pub returns-in_err-live_thread : goal.returns-in_err-live_thread
returns-in_err-live_thread c =
    let p = err_from_is_err_and c.from_residual.result c.from_residual.ensures.1 in
    rw (p.1, p.2) (refuse _ _ _ (none_live c.args.n c.args.self.now.threads _ _ (sym c.live_thread.ensures ∙ c.in_err-live_thread.was)))

pub returns : goal.returns
returns c =
    let m = c.args.self.now in
    let f = found c.args.n m.threads _ (sym c.live_thread.ensures ∙ c.in_ok-live_thread.was) in
    accept (Remove c.args.n) m c.requires (rw (f.within, f.live) refl) (remove c.args.n (shown m)) refl _ c.remove_walks.ensures
