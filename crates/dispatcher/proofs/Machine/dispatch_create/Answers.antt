-- Each refusal is the first that fits; past them the slot is free, and L is one more.
use Prim.Native.Nat.{ℕ}
use mathlib.Core.Path.{◌≡◌, refl, sym, ◌∙◌, ap}
use native.Mathlib.Omega.{arith}
use lib.ListN.{length}
use borrow.Author.Tests.{lt-ltb, le-ltb}
use Rattle.rules.specs.declared.Event.TheVariants.{Create}
use Rattle.rules.specs.declared.refusal.Refusal.TheVariants.{AboveLimit, InUse}
use Rattle.rules.specs.State.{thread_at}
use Rattle.rules.specs.Events.{create}
use Rattle.rules.proofs.Bounds.{live_most}
use Rattle.dispatcher.specs.Shown.{shown}
use Rattle.dispatcher.proofs.Stored.{sound_stored, live_is}
use Rattle.dispatcher.proofs.Answering.{refuse, accept, stands}
use Rattle.dispatcher.proofs.ThreadChanges.{creation_shown, creation_exact}
use Rattle.dispatcher.proofs.Machine.dispatch_create.Goals as goal

pub returns-then-n-gt127 : goal.returns-then-n-gt127
returns-then-n-gt127 c = refuse _ _ AboveLimit (rw (lt-ltb _ _ c.if-n-gt127.true) refl)

pub returns-then-self-from : goal.returns-then-self-from
returns-then-self-from c =
    let live = sym (ap (λ (k : ℕ). (thread_at c.args.self.now.threads k).live) c.from.ensures) ∙ c.if-self-from.true in
    refuse _ _ InUse (rw (le-ltb _ _ c.if-n-gt127.false, live) refl)

pub overflow_add-self : goal.overflow_add-self
overflow_add-self c =
    let full : length c.args.self.now.threads ≡ 128 = omega arith in
    omega (arith, live_is _ (sound_stored _ c.requires), live_most c.args.self.now.threads)

pub returns : goal.returns
unfolding create
returns c =
    let m = c.args.self.now in
    let ok = sound_stored m c.requires in
    let full : length m.threads ≡ 128 = omega arith in
    let free = sym (ap (λ (k : ℕ). (thread_at m.threads k).live) c.from.ensures) ∙ c.if-self-from.false in
    accept (Create c.args.n c.args.role) m c.requires (rw (le-ltb _ _ c.if-n-gt127.false, free) refl)
    (create c.args.n c.args.role (shown m)) refl _
    (stands (creation_shown m _ _ _ c.created-self.ensures)
    (creation_exact m _ _ _ c.created-self.ensures ok (omega (arith, full, c.if-n-gt127.false)) free))
