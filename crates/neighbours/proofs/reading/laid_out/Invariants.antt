-- After i steps the first i entries are those of the turn order, and the others 0.
use Rattle.tables.specs.Turning.{entries_of}
use Rattle.neighbours.specs.Reading.{turns_read}
use Rattle.neighbours.proofs.Stepping.{Read, Laid}
use Rattle.neighbours.proofs.reading.laid_out.Given as goal

abbrev pub invariant-loop-i : goal.invariant-loop-i
invariant-loop-i l = record {
  read : Read l.after l.live (entries_of l.live) l.at l.i;
  laid : Laid (turns_read l.after l.live) l.order l.i;
}
