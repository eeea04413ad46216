-- The closure computes the owner of one timeslice, and the first entries of what it makes are the owners of the first.
use mathlib.Core.Path.{◌∙◌, ap}
use lib.ListN.{take}
use Rattle.std.proofs.Common.{rules}
use Rattle.std.proofs.lemmas.List.{take-map}
use Rattle.rules.specs.Tests.{distinct}
use Rattle.rules.specs.State.{owner_at}
use Rattle.soundness.proofs.Library.{mapped}
use Rattle.plain_engine.proofs.PlainMachine.owners_apart.Goals as goal

pub returns : goal.returns
returns c =
    let owners = mapped _ _ (λ t. owner_at c.args.self.now.slices t) (search rules) _ _ _ (search rules) c.map-owners.ensures.items in
    c.listed_once.ensures ∙ ap distinct (ap (take c.args.self.now.live) owners ∙ take-map _ c.args.self.now.live c.args.self.now.order)
