-- The chain, as a list function, tries 1, and what follows the last of every row.
use mathlib.Core.Path.{◌≡◌, ◌∙◌}
use Prim.Native.Nat.{◌≤◌}
use Rattle.std.proofs.Common.{rules, Some}
use Rattle.std.proofs.iter.Serving.{serving}
use Rattle.std.specs.List.{All}
use Rattle.ranking_table.specs.declared.Row.{Row}
use Rattle.std.proofs.lemmas.Iterator.{YieldsList-from_slice, YieldsList-from_map}
use Rattle.std.proofs.lemmas.Iterator.Adapters.{YieldsList-from_once}
use Rattle.std.proofs.lemmas.Iterator.Consumers.{YieldsList-at, YieldsList-from_chain, fold_from_yields_List}
use borrow.Author.Tests.{tests}
use Rattle.ranking_table.specs.Ranking.{missing, gap}
use Rattle.ranking_table.specs.Good.{better}
use Rattle.ranking_table.proofs.Trying.{ends_inside, after, gap_best}
use Rattle.ranking_table.proofs.faults.smallest_gap.Goals as goal

pub fold-best-requires-clause-can : goal.fold-best-requires-clause-can
fold-best-requires-clause-can c =
    let inside : All (λ (row : Row). row.last ≤ 60000) c.args.rows.now = ends_inside c.args.rows.now c.requires in
    grind serving

pub returns : goal.returns
returns c =
    let rows = c.args.rows.now in
    let best : c.fold-best.result ≡ gap rows =
    fold_from_yields_List _ (better (missing rows)) 60001 c.fold-best.result c.fold-best.ensures.ran
    (YieldsList-from_chain (YieldsList-at c.chain.ensures.first (YieldsList-from_once (Some 1) cc))
    (YieldsList-at c.chain.ensures.second
    (YieldsList-from_map _ after (YieldsList-at c.map.ensures.source (YieldsList-from_slice rows cc)) c.map.ensures.closure
    (λ x b q k. search rules)))
    (cc) cc)
    (λ a x b q k. search (rules, tests))
    ∙ gap_best rows in
    search (rules, tests)
