-- The loop's invariant: the lines that are left are counted as the whole text is.
use Rattle.list_text.proofs.Counting.{Counting}
use Rattle.list_text.proofs.filing.count_lines.Given as goal

abbrev pub invariant-loop-line : goal.invariant-loop-line
invariant-loop-line l = Counting goal.iterator-loop-line.next_gives (λ x. x.now) l.line-iterator l.text l.number l.filled
