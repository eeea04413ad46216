-- The loop's invariant: the records so far and those of the lines that are left are the whole text's.
use Rattle.list_text.proofs.Counting.{Filling}
use Rattle.list_text.proofs.filing.put_lines.Given as goal

abbrev pub invariant-loop-line : goal.invariant-loop-line
invariant-loop-line l = Filling goal.iterator-loop-line.next_gives (λ x. x.now) l.line-iterator l.text l.initial.out l.out l.from l.to
