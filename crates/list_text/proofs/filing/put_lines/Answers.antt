-- The loop's invariant: the records so far and those of the lines that are left are the whole text's.
use Rattle.std.proofs.Common.{rules, tests}
use Rattle.std.proofs.lemmas.Iterator.Splits.{YieldsList-from_slice_split}
use Rattle.list_line.specs.Reading.{line_feed}
use Rattle.list_text.proofs.Counting.{filling_begins, filled_all, filled_on}
use Rattle.list_text.proofs.filing.put_lines.Goals as goal

pub loop-line-init : goal.loop-line-init
loop-line-init c =
    filling_begins (YieldsList-from_slice_split _ line_feed c.args.text.now (cc) (cc) (cc) (λ x b q k. search (rules, tests)))

pub loop-line-preserved : goal.loop-line-preserved
loop-line-preserved c =
    filled_on c.loop-line.invariant c.next.new.self c.next.result c.next.ensures.steps c.in-Some.is c.put_line-to.ensures

pub returns : goal.returns
returns c = filled_all c.loop-line.invariant c.next.new.self c.next.result c.next.ensures.steps c.in-None.is
