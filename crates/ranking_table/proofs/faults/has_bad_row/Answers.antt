-- The chain, as a list function, is what the definition says.
use mathlib.Core.Path.{◌∙◌}
use Rattle.std.proofs.Common.{rules}
use Rattle.std.proofs.lemmas.Iterator.{YieldsList-from_slice}
use Rattle.std.proofs.lemmas.Iterator.Search.{any_from_yields_List}
use Rattle.ranking_table.specs.Ranking.{bad_row}
use Rattle.ranking_table.proofs.Chains.{any_bad_is}
use Rattle.ranking_table.proofs.faults.has_bad_row.Goals as goal

pub returns : goal.returns
returns c =
    any_from_yields_List bad_row _ _ _ c.any.ensures.ran (YieldsList-from_slice c.args.rows.now cc) (λ x b q k. search rules)
    ∙ any_bad_is c.args.rows.now
