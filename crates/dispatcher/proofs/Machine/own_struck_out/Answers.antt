-- What stands there afterwards shows the state with its own timeslice struck out, if it has one: it is listed.
use mathlib.Core.Path.{◌≡◌, refl, sym, ◌∙◌, ap, subst}
use mathlib.Core.Option.{Option, none, some}
use Prim.Native.Nat.{ℕ}
use Rattle.rules.specs.Timeslices.{own_of}
use Rattle.rules.specs.Events.{strike_out}
use Rattle.rules.proofs.Order.Owners.{own_listed}
use Rattle.rules.proofs.Soundness.Places.{sound_of}
use Rattle.tables.specs.Sets.{sought_of}
use Rattle.dispatcher.specs.Choosing.{Shows}
use Rattle.dispatcher.specs.Shown.{shown}
use Rattle.dispatcher.proofs.Stored.{sound_stored, sound_shown}
use Rattle.dispatcher.proofs.ThreadChanges.{choosable}
use Rattle.dispatcher.proofs.Machine.own_struck_out.Goals as goal

pub struck_out-requires-clause-choosable : goal.struck_out-requires-clause-choosable
struck_out-requires-clause-choosable c = choosable c.args.self.now (sound_stored c.args.self.now c.requires)

pub struck_out-requires-clause-in_range : goal.struck_out-requires-clause-in_range
struck_out-requires-clause-in_range c =
    let m = c.args.self.now in
    let listed = own_listed (shown m).slices c.args.n (shown m).order _ (sym c.own.ensures ∙ ap sought_of c.in-Some.is) in
    (sound_of (shown m) (sound_shown m c.requires)).mid.shape.turns.small _ listed

pub struck_out-requires-clause-listed : goal.struck_out-requires-clause-listed
struck_out-requires-clause-listed c =
    let m = c.args.self.now in
    own_listed (shown m).slices c.args.n (shown m).order _ (sym c.own.ensures ∙ ap sought_of c.in-Some.is)

pub returns-in_default : goal.returns-in_default
returns-in_default c =
    let m = c.args.self.now in
    let is : none ≡ own_of (shown m).slices c.args.n (shown m).order = ap sought_of (sym c.in_default.is) ∙ c.own.ensures in
    subst (λ (o : Option ℕ). Shows (strike_out o (shown m)) m) is (record { state = refl; exact = sound_stored m c.requires })

pub returns-in-Some : goal.returns-in-Some
returns-in-Some c =
    let m = c.args.self.now in
    let is : some c.in-Some.t ≡ own_of (shown m).slices c.args.n (shown m).order = ap sought_of (sym c.in-Some.is) ∙ c.own.ensures in
    subst (λ (o : Option ℕ). Shows (strike_out o (shown m)) c.struck_out.new.self) is c.struck_out.ensures
