-- The chain, as a list function, tries the first of every row.
use mathlib.Core.Path.{◌≡◌, ◌∙◌}
use Rattle.std.proofs.Common.{rules}
use Rattle.std.proofs.lemmas.Iterator.{YieldsList-from_slice, YieldsList-from_map}
use Rattle.std.proofs.lemmas.Iterator.Consumers.{YieldsList-at, fold_from_yields_List}
use borrow.Author.Tests.{tests}
use Rattle.ranking_table.specs.Ranking.{in_two, overlap}
use Rattle.ranking_table.specs.Good.{better}
use Rattle.ranking_table.proofs.Ends.{first_of}
use Rattle.ranking_table.proofs.Trying.{overlap_best}
use Rattle.ranking_table.proofs.faults.smallest_overlap.Goals as goal

pub returns : goal.returns
returns c =
    let rows = c.args.rows.now in
    let best : c.fold-best.result ≡ overlap rows =
    fold_from_yields_List _ (better (in_two rows)) 60001 c.fold-best.result c.fold-best.ensures.ran
    (YieldsList-from_map _ first_of (YieldsList-at c.map.ensures.source (YieldsList-from_slice rows cc)) c.map.ensures.closure
    (λ x b q k. search rules))
    (λ a x b q k. search (rules, tests))
    ∙ overlap_best rows c.requires in
    search (rules, tests)
