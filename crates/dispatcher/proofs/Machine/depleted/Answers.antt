-- The timeslice goes to the back and is Spent; its followers are released, and a choice follows.
use mathlib.Core.Path.{refl}
use Rattle.rules.specs.Release.{behind}
use Rattle.rules.specs.declared.Place.TheVariants.{Spent}
use Rattle.rules.specs.Timeslices.{charged, to_back}
use Rattle.rules.specs.Choice.{park}
use Rattle.rules.specs.Events.{depletes}
use Rattle.neighbours.specs.Sides.{sides}
use Rattle.dispatcher.specs.Shown.{shown}
use Rattle.dispatcher.proofs.Stored.{turns_linked}
use Rattle.dispatcher.proofs.Answering.{chosen}
use Rattle.dispatcher.proofs.TimesliceChanges.{moved_to, charges, left_places, released_shown, turned_exact, turned_shown}
use Rattle.dispatcher.proofs.ThreadChanges.{choosable}
use Rattle.dispatcher.proofs.Machine.depleted.Goals as goal

pub choose-requires : goal.choose-requires
choose-requires c =
    let m = c.args.self.now in
    let ok = c.requires.choosable.exact in
    let back = c.move_back.ensures.turned (shown m).order (turns_linked m ok) c.requires.listed in
    choosable _ (turned_exact m _ _ _ ok c.requires.listed back)

pub returns : goal.returns
unfolding depletes park
returns c =
    let m = c.args.self.now in
    let ok = c.requires.choosable.exact in
    let back = c.move_back.ensures.turned (shown m).order (turns_linked m ok) c.requires.listed in
    let turned = sides c.move_back.new.before c.move_back.new.after in
    chosen (moved_to m.threads c.release-self.result turned m) 0 _ _
    (released_shown m (behind c.args.t) _ _ _ _ (charged c.args.t c.args.units (shown m).slices) _ turned
    (to_back c.args.t (shown m).order) refl
    (charges m.timeslices _ c.args.t c.args.units Spent c.from-k.ensures) (left_places m.timeslices _ c.args.t _ Spent c.from-k.ensures)
    (turned_shown m c.args.t turned m.timeslices ok c.requires.listed back) c.release-self.ensures)
    c.choose.ensures
