-- Each refusal is the first that fits; past them the server's hold decides between donation and helping.
use mathlib.Core.Path.{◌≡◌, refl, sym, ◌∙◌, ap}
use mathlib.Core.Bool.{true, false}
use borrow.Author.Tests.{eq-eqb, ne_eqb}
use Rattle.std.proofs.Common.{rules}
use Rattle.std.proofs.lemmas.Result.{err_from_is_err_and}
use Rattle.rules.specs.declared.Thread.{Thread}
use Rattle.rules.specs.declared.refusal.Refusal.TheVariants.{NothingRuns, NotAServer, Itself}
use Rattle.rules.specs.State.{hold_at}
use Rattle.rules.specs.declared.Event.TheVariants.{Call}
use Rattle.rules.specs.Sound.{is_idle, is_server}
use Rattle.rules.specs.Events.{call, call_by, call_donates, call_helps}
use Rattle.dispatcher.specs.Shown.{shown}
use Rattle.dispatcher.proofs.Stored.{sound_stored, sound_shown}
use Rattle.dispatcher.proofs.Answering.{refuse, accept}
use Rattle.dispatcher.proofs.Refusing.{found, none_live}
use Rattle.dispatcher.proofs.Current.{count_fits}
use Rattle.dispatcher.proofs.ThreadChanges.{choosable, call_idle, call_busy}
use Rattle.dispatcher.proofs.Machine.dispatch_call.Goals as goal

pub returns-in_default : goal.returns-in_default
returns-in_default c = refuse _ _ NothingRuns (rw c.in_default.is refl)

pub returns-in_err-thread : goal.returns-in_err-thread
returns-in_err-thread c =
    let p = err_from_is_err_and c.from_residual.result c.from_residual.ensures.1 in
    let none = sym c.live_thread.ensures ∙ c.in_err-thread.was in
    rw (p.1, p.2) (refuse _ _ _ (rw c.in-Runs.is (none_live c.args.server c.args.self.now.threads _ _ none)))

pub returns-then-ne : goal.returns-then-ne
returns-then-ne c =
    let f = found c.args.server c.args.self.now.threads _ (sym c.live_thread.ensures ∙ c.in_ok-thread.was) in
    let other : is_server c.in_ok-thread.thread.role ≡ false = search rules in
    let client = ap (λ (t : Thread). is_server t.role) (sym f.read) ∙ other in
    refuse _ _ NotAServer (rw (c.in-Runs.is, f.within, f.live, client) refl)

pub returns-then-server-caller : goal.returns-then-server-caller
returns-then-server-caller c =
    let f = found c.args.server c.args.self.now.threads _ (sym c.live_thread.ensures ∙ c.in_ok-thread.was) in
    let same : is_server c.in_ok-thread.thread.role ≡ true = search rules in
    let server = ap (λ (t : Thread). is_server t.role) (sym f.read) ∙ same in
    refuse _ _ Itself (rw (c.in-Runs.is, f.within, f.live, server, eq-eqb _ _ c.if-server-caller.true) refl)

pub call_donates-requires-clause-choosable : goal.call_donates-requires-clause-choosable
call_donates-requires-clause-choosable c = choosable _ (sound_stored _ c.requires)

pub call_donates-requires-clause-in_range : goal.call_donates-requires-clause-in_range
call_donates-requires-clause-in_range c = count_fits (shown c.args.self.now) _ _ _ (sound_shown _ c.requires) c.in-Runs.is

pub returns-then-eq : goal.returns-then-eq
unfolding call
returns-then-eq c =
    let m = c.args.self.now in
    let f = found c.args.server m.threads _ (sym c.live_thread.ensures ∙ c.in_ok-thread.was) in
    let same : is_server c.in_ok-thread.thread.role ≡ true = search rules in
    let server = ap (λ (t : Thread). is_server t.role) (sym f.read) ∙ same in
    let waits : is_idle c.in_ok-thread.thread.hold ≡ true = search rules in
    let idle = ap (λ (t : Thread). is_idle t.hold) (sym f.read) ∙ waits in
    accept (Call c.args.server) m c.requires (rw (c.in-Runs.is, f.within, f.live, server, ne_eqb _ _ c.if-server-caller.false) refl)
    (call_donates c.args.server c.in-Runs.caller c.in-Runs.t c.in-Runs.count (shown m))
    (call_idle c.args.server _ _ _ (shown m) (hold_at m.threads c.args.server) idle
    ∙ sym (ap (call_by c.args.server (shown m)) c.in-Runs.is)) _
    c.call_donates.ensures

pub call_helps-requires : goal.call_helps-requires
call_helps-requires c = choosable _ (sound_stored _ c.requires)

pub returns : goal.returns
unfolding call
returns c =
    let m = c.args.self.now in
    let f = found c.args.server m.threads _ (sym c.live_thread.ensures ∙ c.in_ok-thread.was) in
    let same : is_server c.in_ok-thread.thread.role ≡ true = search rules in
    let server = ap (λ (t : Thread). is_server t.role) (sym f.read) ∙ same in
    let works : is_idle c.in_ok-thread.thread.hold ≡ false = search rules in
    let busy = ap (λ (t : Thread). is_idle t.hold) (sym f.read) ∙ works in
    accept (Call c.args.server) m c.requires (rw (c.in-Runs.is, f.within, f.live, server, ne_eqb _ _ c.if-server-caller.false) refl)
    (call_helps c.args.server c.in-Runs.caller (shown m))
    (call_busy c.args.server c.in-Runs.caller c.in-Runs.t c.in-Runs.count (shown m) (hold_at m.threads c.args.server) busy
    ∙ sym (ap (call_by c.args.server (shown m)) c.in-Runs.is)) _ c.call_helps.ensures
