-- Each refusal is the first that fits; past them the thread is Ready, and those On it are released.
use mathlib.Core.Path.{◌≡◌, refl, sym, ◌∙◌, ap}
use mathlib.Core.Bool.{true, false}
use Rattle.rules.specs.declared.Event.TheVariants.{Wake}
use Rattle.rules.specs.declared.Hold.TheVariants.{Ready}
use Rattle.rules.specs.declared.refusal.Refusal.TheVariants.{NotBlocked}
use Rattle.std.proofs.Common.{rules}
use Rattle.std.proofs.lemmas.Result.{err_from_is_err_and}
use Rattle.rules.specs.declared.Thread.{Thread}
use Rattle.rules.specs.State.{with_threads}
use Rattle.rules.specs.Threads.{set_hold}
use Rattle.rules.specs.Holds.{is_blocked}
use Rattle.rules.specs.Events.{wake, releases}
use Rattle.rules.proofs.Tables.Writes.{hold_relabels}
use Rattle.dispatcher.specs.Shown.{shown}
use Rattle.dispatcher.proofs.Stored.{sound_stored}
use Rattle.dispatcher.proofs.Answering.{refuse, accept, said_of}
use Rattle.dispatcher.proofs.Refusing.{found, none_live}
use Rattle.dispatcher.proofs.ThreadChanges.{choosable, threads_to, threads_shown, threads_exact}
use Rattle.dispatcher.proofs.Machine.dispatch_wake.Goals as goal

pub returns-in_err-thread : goal.returns-in_err-thread
returns-in_err-thread c =
    let p = err_from_is_err_and c.from_residual.result c.from_residual.ensures.1 in
    rw (p.1, p.2) (refuse _ _ _ (none_live c.args.n c.args.self.now.threads _ _ (sym c.live_thread.ensures ∙ c.in_err-thread.was)))

pub returns-then-ne : goal.returns-then-ne
returns-then-ne c =
    let f = found c.args.n c.args.self.now.threads _ (sym c.live_thread.ensures ∙ c.in_ok-thread.was) in
    let other : is_blocked c.in_ok-thread.thread.hold ≡ false = search rules in
    let held = ap (λ (t : Thread). is_blocked t.hold) (sym f.read) ∙ other in
    refuse _ _ NotBlocked (rw (f.within, f.live, held) refl)

pub waiters_released-requires : goal.waiters_released-requires
waiters_released-requires c =
    choosable _ (threads_exact c.args.self.now _ _ (sound_stored _ c.requires) c.with_hold-self.ensures (hold_relabels _ _ _).count)

pub returns : goal.returns
unfolding wake
returns c =
    let m = c.args.self.now in
    let f = found c.args.n m.threads _ (sym c.live_thread.ensures ∙ c.in_ok-thread.was) in
    let same : is_blocked c.in_ok-thread.thread.hold ≡ true = search rules in
    let held = ap (λ (t : Thread). is_blocked t.hold) (sym f.read) ∙ same in
    accept (Wake c.args.n) m c.requires (rw (f.within, f.live, held) refl)
    (releases c.args.n (with_threads (set_hold c.args.n Ready m.threads) (shown m))) refl _
    (said_of (releases c.args.n) (threads_to _ m) _ _ (threads_shown m _ _ c.with_hold-self.ensures) c.waiters_released.ensures)
