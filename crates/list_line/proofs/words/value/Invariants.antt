-- The bytes so far are digits, and with those that are left they make the whole number.
use Rattle.list_line.proofs.Numerals.{Reads}
use Rattle.list_line.proofs.words.value.Given as goal

abbrev pub invariant-loop-b : goal.invariant-loop-b
invariant-loop-b l = Reads l.word l.b-index l.n
