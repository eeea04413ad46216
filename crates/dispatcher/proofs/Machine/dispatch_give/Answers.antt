-- Each refusal is the first that fits; past them the turn order lacks the timeslice, so it has room for it.
use mathlib.Core.Path.{refl, sym, ◌∙◌}
use mathlib.Core.Bool.{true, false}
use native.Mathlib.Omega.{arith}
use borrow.Author.Tests.{lt-ltb, le-ltb, eq-eqb, ne_eqb}
use Rattle.std.proofs.lemmas.Result.{err_from_is_err_and}
use Rattle.rules.specs.declared.Event.TheVariants.{Give}
use Rattle.rules.specs.declared.refusal.Refusal.TheVariants.{AboveLimit, InUse, OwnsOne, NoQuantum}
use Rattle.rules.specs.Events.{give}
use Rattle.neighbours.specs.Sides.{sides}
use Rattle.dispatcher.specs.Shown.{shown}
use Rattle.dispatcher.proofs.Stored.{sound_stored, says_listed}
use Rattle.dispatcher.proofs.Answering.{refuse, accept}
use Rattle.dispatcher.proofs.Refusing.{found, none_within}
use Rattle.dispatcher.proofs.TimesliceChanges.{gift, gift_shown, gift_exact, gift_linked, gift_room, joined_to}
use Rattle.dispatcher.proofs.ThreadChanges.{choosable}
use Rattle.dispatcher.proofs.Machine.dispatch_give.Goals.{then-t-gt127-via-then-t-gt127, then-t-gt127-via-else-t-gt127+then-n-gt127}
use Rattle.dispatcher.proofs.Machine.dispatch_give.Goals as goal

pub returns-then-t-gt127 : goal.returns-then-t-gt127
returns-then-t-gt127 c =
    elim c.then-t-gt127.branch [
      | then-t-gt127-via-then-t-gt127 o ↦ refuse _ _ AboveLimit (rw (lt-ltb _ _ o.if-t-gt127.true) refl)
      | then-t-gt127-via-else-t-gt127+then-n-gt127 o ↦
          refuse _ _ AboveLimit (rw (le-ltb _ _ o.if-t-gt127.false, lt-ltb _ _ o.if-n-gt127.true) refl)
    ]

pub returns-then-is_listed : goal.returns-then-is_listed
returns-then-is_listed c =
    let listed = says_listed c.args.self.now (sound_stored _ c.requires) _ _ true (omega (arith, c.if-t-gt127.false)) c.is_listed.ensures
    c.if-is_listed.true in
    refuse _ _ InUse (rw (le-ltb _ _ c.if-t-gt127.false, le-ltb _ _ c.if-n-gt127.false, listed) refl)

pub returns-in_err-live_thread : goal.returns-in_err-live_thread
returns-in_err-live_thread c =
    let unlisted = says_listed c.args.self.now (sound_stored _ c.requires) _ _ false (omega (arith, c.if-t-gt127.false)) c.is_listed.ensures
    c.if-is_listed.false in
    let p = err_from_is_err_and c.from_residual.result c.from_residual.ensures.1 in
    let within = le-ltb _ _ c.if-n-gt127.false in
    let none = none_within c.args.n c.args.self.now.threads _ _ within (sym c.live_thread.ensures ∙ c.in_err-live_thread.was) in
    rw (p.1, p.2) (refuse _ _ _ (rw (le-ltb _ _ c.if-t-gt127.false, within, unlisted) none))

pub returns-then-owns_one : goal.returns-then-owns_one
returns-then-owns_one c =
    let unlisted = says_listed c.args.self.now (sound_stored _ c.requires) _ _ false (omega (arith, c.if-t-gt127.false)) c.is_listed.ensures
    c.if-is_listed.false in
    let f = found c.args.n c.args.self.now.threads _ (sym c.live_thread.ensures ∙ c.in_ok-live_thread.was) in
    let owns = sym c.owns_one.ensures ∙ c.if-owns_one.true in
    refuse _ _ OwnsOne (rw (le-ltb _ _ c.if-t-gt127.false, f.within, unlisted, f.live, owns) refl)

pub returns-then-quantum-eq0 : goal.returns-then-quantum-eq0
returns-then-quantum-eq0 c =
    let unlisted = says_listed c.args.self.now (sound_stored _ c.requires) _ _ false (omega (arith, c.if-t-gt127.false)) c.is_listed.ensures
    c.if-is_listed.false in
    let f = found c.args.n c.args.self.now.threads _ (sym c.live_thread.ensures ∙ c.in_ok-live_thread.was) in
    let owns = sym c.owns_one.ensures ∙ c.if-owns_one.false in
    refuse _ _ NoQuantum (rw (le-ltb _ _ c.if-t-gt127.false, f.within, unlisted, f.live, owns, eq-eqb _ _ c.if-quantum-eq0.true) refl)

pub overflow_add-self : goal.overflow_add-self
overflow_add-self c =
    let m = c.args.self.now in
    let unlisted = says_listed m (sound_stored _ c.requires) _ _ false (omega (arith, c.if-t-gt127.false)) c.is_listed.ensures
    c.if-is_listed.false in
    omega (arith, gift_room m c.args.t (omega (arith, c.if-t-gt127.false)) unlisted c.requires)

pub overtaken-requires : goal.overtaken-requires
overtaken-requires c =
    let m = c.args.self.now in
    let ok = sound_stored m c.requires in
    let unlisted = says_listed m ok _ _ false (omega (arith, c.if-t-gt127.false)) c.is_listed.ensures c.if-is_listed.false in
    let room = gift_room m c.args.t (omega (arith, c.if-t-gt127.false)) unlisted c.requires in
    choosable _ (gift_exact m _ _ _ _ _ c.from.ensures _ room ok
    (gift_linked m c.args.t (omega (arith, c.if-t-gt127.false)) unlisted ok _ c.append.ensures.turned))

pub returns : goal.returns
unfolding give
returns c =
    let m = c.args.self.now in
    let ok = sound_stored m c.requires in
    let unlisted = says_listed m ok _ _ false (omega (arith, c.if-t-gt127.false)) c.is_listed.ensures c.if-is_listed.false in
    let room = gift_room m c.args.t (omega (arith, c.if-t-gt127.false)) unlisted c.requires in
    let longer = sides c.append.new.before c.append.new.after in
    let k = gift_linked m c.args.t (omega (arith, c.if-t-gt127.false)) unlisted ok longer c.append.ensures.turned in
    let f = found c.args.n m.threads _ (sym c.live_thread.ensures ∙ c.in_ok-live_thread.was) in
    let owns = sym c.owns_one.ensures ∙ c.if-owns_one.false in
    accept (Give c.args.t c.args.n c.args.priority c.args.quantum) m c.requires
    (rw (le-ltb _ _ c.if-t-gt127.false, f.within, unlisted, f.live, owns, ne_eqb _ _ c.if-quantum-eq0.false) refl)
    (give c.args.t c.args.n c.args.priority c.args.quantum (shown m)) refl _
    (joined_to c.args.t (gift m _ c.args.t c.args.n c.args.priority c.args.quantum c.from.ensures longer room) _ _
    (gift_shown m _ c.args.t c.args.n c.args.priority c.args.quantum c.from.ensures longer room ok k)
    c.overtaken.ensures)
