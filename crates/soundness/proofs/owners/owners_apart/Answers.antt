-- The closure computes the owner of one timeslice, and the first entries of what it makes are the owners of the first.
use mathlib.Core.Path.{◌∙◌, ap}
use Rattle.std.proofs.Common.{rules}
use mathlib.Core.List.{map}
use lib.ListN.{take}
use Rattle.std.proofs.lemmas.List.{take-map}
use Rattle.rules.specs.Tests.{distinct}
use Rattle.rules.specs.State.{owner_at}
use Rattle.tables.specs.Timeslices.{slice_of}
use Rattle.tables.proofs.Lookups.{slice_at_lem}
use Rattle.soundness.proofs.Library.{mapped}
use Rattle.soundness.proofs.owners.owners_apart.Goals as goal

pub returns : goal.returns
returns c =
    let owners = mapped _ _ (λ t. owner_at (map slice_of c.args.timeslices) t)
    (λ x y q called. (search (rules, slice_at_lem), search rules)) _ _ _ (search rules) c.map.ensures.items in
    c.listed_once.ensures ∙ ap distinct (ap (take c.args.live) owners ∙ take-map _ c.args.live c.args.order)
