-- Row after row is read into an array that has room for as many as a byte can say.
use mathlib.Core.Path.{ap, ◌∙◌}
use Rattle.ranking_sheet.specs.Sheet.{rows_from}
use Rattle.ranking_sheet.proofs.Filling.{fill_one, fill_all}
use Rattle.ranking_sheet.proofs.reading.read_table.Goals as goal

pub loop-k-preserved : goal.loop-k-preserved
loop-k-preserved c = fill_one c.loop-k.invariant c.loop-k-test.true _ c.row_from.ensures

pub returns : goal.returns
returns c =
    fill_all c.loop-k.invariant c.loop-k-test.false
    ∙ ap (rows_from c.args.input.now 1) (c.from-count.ensures ∙ c.byte_at.ensures)
