-- A line for each interval that is looked up.
use Rattle.ranking_table.specs.Ranking.{rows_of}
use Rattle.ranking_sheet.proofs.Answering.{Answering}
use Rattle.ranking_sheet.proofs.answers.put_answers.Given as goal

abbrev pub invariant-loop-k : goal.invariant-loop-k
invariant-loop-k l = Answering l.input (rows_of l.table) l.initial.out l.out l.start l.k-end l.k l.at
