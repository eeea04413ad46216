-- Each refusal is the first that fits; past them nothing is left of the timeslice, and it joins Queue with its whole quantum.
use mathlib.Core.Path.{refl}
use borrow.Author.Tests.{eq-eqb, ne_eqb}
use Rattle.std.proofs.lemmas.Result.{err_from_is_err_and}
use Rattle.rules.specs.declared.Event.TheVariants.{Refill}
use Rattle.rules.specs.declared.refusal.Refusal.TheVariants.{NotSpent}
use Rattle.rules.specs.Events.{refill}
use Rattle.dispatcher.specs.Shown.{shown}
use Rattle.dispatcher.proofs.Stored.{sound_stored, stored_with, live_is}
use Rattle.dispatcher.proofs.Answering.{refuse, accept}
use Rattle.dispatcher.proofs.Refusing.{listed_there, none_listed}
use Rattle.dispatcher.proofs.TimesliceChanges.{left_at_lem, refilled_to, refill_shown, joined_to}
use Rattle.dispatcher.proofs.ThreadChanges.{choosable}
use Rattle.dispatcher.proofs.Machine.dispatch_refill.Goals as goal

pub returns-in_err-check_listed : goal.returns-in_err-check_listed
returns-in_err-check_listed c =
    let p = err_from_is_err_and c.from_residual.result c.from_residual.ensures.1 in
    rw (p.1, p.2)
    (refuse _ _ _ (none_listed c.args.self.now (sound_stored _ c.requires) _ _ _ _ c.check_listed.ensures c.in_err-check_listed.was))

pub returns-then-x-ne0 : goal.returns-then-x-ne0
returns-then-x-ne0 c =
    let m = c.args.self.now in
    let there = listed_there m (sound_stored m c.requires) _ _ _ c.check_listed.ensures c.in_ok-check_listed.was in
    refuse _ _ NotSpent (rw (there.0, there.1, left_at_lem m.timeslices _ _ c.from-k.ensures, ne_eqb _ _ c.if-x-ne0.true) refl)

pub overtaken-requires : goal.overtaken-requires
overtaken-requires c =
    let m = c.args.self.now in
    let ok = sound_stored m c.requires in
    choosable _ (stored_with m ok _ refl refl (live_is m ok))

pub returns : goal.returns
unfolding refill
returns c =
    let m = c.args.self.now in
    let there = listed_there m (sound_stored m c.requires) _ _ _ c.check_listed.ensures c.in_ok-check_listed.was in
    accept (Refill c.args.t) m c.requires
    (rw (there.0, there.1, left_at_lem m.timeslices _ _ c.from-k.ensures, eq-eqb _ _ c.if-x-ne0.false) refl)
    (refill c.args.t (shown m)) refl _
    (joined_to c.args.t (refilled_to m c.from-k.result c.args.t c.from-k.ensures) _ _
    (refill_shown m c.from-k.result c.args.t c.from-k.ensures) c.overtaken.ensures)
