-- The lines so far and those of the numbers that are left make the whole; a number without units has no line.
use lib.ListN.{drop}
use Rattle.text.proofs.Putting.{Going}
use Rattle.shares_sheet.specs.Tallies.{tally_lines}
use Rattle.shares_sheet.proofs.lines.put_shares.Given as goal

abbrev pub invariant-loop-timeslice : goal.invariant-loop-timeslice
invariant-loop-timeslice l =
    Going l.initial.out l.out 0 l.at (tally_lines l.total l.timeslice (drop l.timeslice l.paid.units)) (tally_lines l.total 0 l.paid.units)
