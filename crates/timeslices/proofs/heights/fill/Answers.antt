-- Every live entry gets its timeslice, with its code and its height; past the end of the table stands the free one.
use mathlib.Core.Path.{sym}
use Rattle.timeslices.proofs.Searches.{fill_none, fill_one, filled}
use Rattle.timeslices.proofs.heights.fill.Goals as goal

pub loop-i-init : goal.loop-i-init
loop-i-init c = fill_none _ _ _ _ _ _ _ c.entries-i-end.ensures

pub loop-i-preserved : goal.loop-i-preserved
loop-i-preserved c =
    fill_one c.args.timeslices _ _ _ _ _ _ _ _ _ _ _ _ _ _ _ _ c.loop-i.invariant c.loop-i-test.true
    c.neighbour_at-t.ensures c.from-at.ensures (sym c.entry_or-x.ensures) c.code.ensures c.height.ensures

pub returns : goal.returns
returns c =
    let all = filled _ _ _ _ _ _ _ _ _ _ _ _ c.loop-i.invariant c.loop-i-test.false in
    record { ordered = all.0; coded = all.1.0; measured = all.1.1 }
