-- The loop's invariant: the lines that are left are counted as the whole text is.
use Rattle.std.proofs.Common.{rules, tests}
use Rattle.std.proofs.lemmas.Iterator.Splits.{YieldsList-from_slice_split}
use Rattle.list_line.specs.Reading.{line_feed}
use Rattle.list_text.proofs.Counting.{counting_begins, counted_all, counted_wrong, counted_on_line}
use Rattle.list_text.proofs.filing.count_lines.Goals as goal

pub loop-line-init : goal.loop-line-init
loop-line-init c =
    counting_begins (YieldsList-from_slice_split _ line_feed c.args.text.now (cc) (cc) (cc) (λ x b q k. search (rules, tests))) c.requires

pub returns-in-Err : goal.returns-in-Err
returns-in-Err c =
    counted_wrong c.loop-line.invariant c.next.new.self c.next.result c.next.ensures.steps c.in-Some.is c.in-Err.ensures.counts

pub loop-line-preserved : goal.loop-line-preserved
loop-line-preserved c =
    counted_on_line c.loop-line.invariant c.next.new.self c.next.result c.next.ensures.steps c.in-Some.is c.in-Ok.ensures.counts
    c.in-Ok.ensures.bounded

pub returns : goal.returns
returns c = counted_all c.loop-line.invariant c.next.new.self c.next.result c.next.ensures.steps c.in-None.is
