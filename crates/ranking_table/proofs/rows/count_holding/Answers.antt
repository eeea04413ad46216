-- The chain, as a list function, is what the definition says.
use mathlib.Core.Path.{◌∙◌}
use Rattle.std.proofs.Common.{rules}
use Rattle.std.proofs.lemmas.Iterator.{YieldsList-from_slice}
use Rattle.std.proofs.lemmas.Iterator.Consumers.{YieldsList-at, YieldsList-from_filter, count_from_yields_List}
use Rattle.ranking_table.specs.Ranking.{holds}
use Rattle.ranking_table.proofs.Chains.{holding_is}
use Rattle.ranking_table.proofs.rows.count_holding.Goals as goal

pub returns : goal.returns
returns c =
    count_from_yields_List _ _ c.count.ensures.ran
    (YieldsList-from_filter _ (holds c.args.i) (YieldsList-at c.filter.ensures.source (YieldsList-from_slice c.args.rows.now cc))
    c.filter.ensures.closure (λ x b q k. search rules))
    ∙ holding_is c.args.rows.now c.args.i
