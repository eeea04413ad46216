-- A line for each interval that is looked up.
use mathlib.Core.Path.{refl}
use native.Mathlib.Omega.{arith}
use Rattle.ranking_table.specs.Ranking.{rows_of}
use Rattle.ranking_sheet.proofs.Inputs.{not_short}
use Rattle.ranking_sheet.proofs.Answering.{answer_none, by_lookup, answer_one, answer_all}
use Rattle.ranking_sheet.proofs.answers.put_answers.Goals as goal

pub overflow_sub-k-end : goal.overflow_sub-k-end
overflow_sub-k-end c = omega (arith, c.intervals_at-start.ensures, not_short c.args.input.now c.requires)

pub loop-k-init : goal.loop-k-init
loop-k-init c = answer_none c.args.input.now (rows_of c.args.table.now) _ c.requires c.intervals_at-start.ensures refl

pub word_at-interval-requires : goal.word_at-interval-requires
word_at-interval-requires c = omega (arith, c.loop-k.invariant.room, c.loop-k-test.true)

pub loop-k-preserved : goal.loop-k-preserved
loop-k-preserved c =
    answer_one c.loop-k.invariant c.loop-k-test.true c.word_at-interval.ensures
    (by_lookup (rows_of c.args.table.now) _ _ _ c.judge-judged.ensures c.answer_by.ensures)
    c.put_answer-at.ensures

pub returns : goal.returns
returns c = answer_all c.loop-k.invariant c.loop-k-test.false
