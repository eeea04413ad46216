-- The chain, as a list function, is what the definition says.
use mathlib.Core.Path.{◌∙◌}
use Rattle.std.proofs.Common.{rules}
use Rattle.std.proofs.lemmas.Iterator.{YieldsList-from_slice}
use Rattle.std.proofs.lemmas.Iterator.Search.{find_from_yields_List}
use Rattle.ranking_table.specs.Ranking.{holds}
use Rattle.ranking_table.proofs.Chains.{priority_in_is}
use Rattle.ranking_table.proofs.rows.priority_in.Goals as goal

pub returns : goal.returns
returns c =
    let found =
    find_from_yields_List (holds c.args.i) _ _ c.find.result c.find.ensures.ran (YieldsList-from_slice c.args.rows.now cc)
    (λ x b q k. search rules) in
    search (rules, found)
    ∙ priority_in_is c.args.rows.now c.args.i
