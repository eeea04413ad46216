-- Row after row is read into an array that has room for as many as a byte can say.
use Rattle.ranking_sheet.proofs.Filling.{Filled}
use Rattle.ranking_sheet.proofs.reading.read_table.Given as goal

abbrev pub invariant-loop-k : goal.invariant-loop-k
invariant-loop-k l = Filled l.input l.count l.rows l.k
