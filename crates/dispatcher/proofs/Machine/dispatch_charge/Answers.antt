-- Each refusal is the first that fits; what is left then decides whether the timeslice is depleted.
use Prim.Native.Nat.{◌-◌}
use mathlib.Core.Path.{refl}
use native.Mathlib.Omega.{arith}
use borrow.Author.Tests.{lt-ltb, le-ltb, eq-eqb, ne_eqb}
use lib.ListN.{get_or}
use Rattle.tables.specs.Timeslices.{free_timeslice}
use Rattle.rules.specs.declared.Event.TheVariants.{Charge}
use Rattle.rules.specs.declared.refusal.Refusal.TheVariants.{NothingRuns, BadCharge}
use Rattle.rules.specs.Events.{depletes, spends}
use Rattle.dispatcher.specs.Shown.{shown}
use Rattle.dispatcher.proofs.Stored.{sound_stored, sound_shown, stored_with, live_is}
use Rattle.dispatcher.proofs.Answering.{refuse, accept, stands}
use Rattle.dispatcher.proofs.Current.{current_fits, current_listed}
use Rattle.dispatcher.proofs.TimesliceChanges.{left_at_lem, place_stays, charges, charge_spent, charge_left}
use Rattle.dispatcher.proofs.ThreadChanges.{choosable}
use Rattle.dispatcher.proofs.Machine.dispatch_charge.Goals.{then-units-eq0-via-then-units-eq0}
use Rattle.dispatcher.proofs.Machine.dispatch_charge.Goals.{then-units-eq0-via-else-units-eq0+then-left-units}
use Rattle.dispatcher.proofs.Machine.dispatch_charge.Goals as goal

pub returns-in_default : goal.returns-in_default
returns-in_default c = refuse _ _ NothingRuns (rw c.in_default.is refl)

pub offset_bounds-self-k : goal.offset_bounds-self-k
offset_bounds-self-k c = omega (arith, c.from-k.ensures, current_fits _ _ _ _ (sound_shown _ c.requires) c.in-Runs.is)

pub bounds-self-k : goal.bounds-self-k
bounds-self-k c = omega (arith, c.from-k.ensures, current_fits _ _ _ _ (sound_shown _ c.requires) c.in-Runs.is)

pub returns-then-units-eq0 : goal.returns-then-units-eq0
returns-then-units-eq0 c =
    let left = left_at_lem c.args.self.now.timeslices _ _ c.from-k.ensures in
    elim c.then-units-eq0.branch [
      | then-units-eq0-via-then-units-eq0 o ↦ refuse _ _ BadCharge (rw (c.in-Runs.is, eq-eqb _ _ o.if-units-eq0.true) refl)
      | then-units-eq0-via-else-units-eq0+then-left-units o ↦
          refuse _ _ BadCharge (rw (c.in-Runs.is, ne_eqb _ _ o.if-units-eq0.false, left, lt-ltb _ _ o.if-left-units.true) refl)
    ]

pub depleted-requires-clause-choosable : goal.depleted-requires-clause-choosable
depleted-requires-clause-choosable c = choosable _ (sound_stored _ c.requires)

pub depleted-requires-clause-listed : goal.depleted-requires-clause-listed
depleted-requires-clause-listed c =
    let m = c.args.self.now in
    current_listed (shown m) _ _ _ (sound_shown m c.requires) c.in-Runs.is

pub returns-then-left-units-2 : goal.returns-then-left-units-2
returns-then-left-units-2 c =
    let m = c.args.self.now in
    let left = left_at_lem m.timeslices _ _ c.from-k.ensures in
    accept (Charge c.args.units) m c.requires
    (rw (c.in-Runs.is, ne_eqb _ _ c.if-units-eq0.false, left, le-ltb _ _ c.if-left-units.false) refl)
    (depletes c.in-Runs.t c.args.units (shown m)) (charge_spent m _ _ _ _ _ c.in-Runs.is c.from-k.ensures c.if-left-units-2.true) _
    c.depleted.ensures

pub returns : goal.returns
unfolding spends
returns c =
    let m = c.args.self.now in
    let ok = sound_stored m c.requires in
    let left = left_at_lem m.timeslices _ _ c.from-k.ensures in
    let slices = charges m.timeslices _ c.in-Runs.t c.args.units _ c.from-k.ensures in
    let rest = (get_or m.timeslices c.from-k.result free_timeslice).left - c.args.units in
    let places = place_stays m.timeslices _ c.in-Runs.t rest c.from-k.ensures in
    accept (Charge c.args.units) m c.requires
    (rw (c.in-Runs.is, ne_eqb _ _ c.if-units-eq0.false, left, le-ltb _ _ c.if-left-units.false) refl)
    (spends c.in-Runs.t c.args.units (shown m)) (charge_left m _ _ _ _ _ c.in-Runs.is c.from-k.ensures c.if-left-units-2.false) _
    (stands (λ i. record { threads = m.threads; slices = slices i; places = places i; order = (shown m).order; running = m.running })
    (stored_with m ok _ refl refl (live_is m ok)))
