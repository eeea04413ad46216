-- Every live entry gets its timeslice, with its code and its height; past the end of the table stands the free one.
use Rattle.timeslices.proofs.Searches.{Filling}
use Rattle.timeslices.proofs.heights.fill.Given as goal

abbrev pub invariant-loop-i : goal.invariant-loop-i
invariant-loop-i l =
    Filling l.timeslices l.after l.live l.i-end l.initial.order l.initial.codes l.initial.heights
    l.order l.codes l.heights l.at l.i
