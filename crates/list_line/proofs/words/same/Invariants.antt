-- From the place reached on the words are the same as the whole words are.
use mathlib.Core.Path.{◌≡◌}
use lib.ListN.{drop}
use Rattle.list_line.specs.Reading.{same}
use Rattle.list_line.proofs.words.same.Given as goal

abbrev pub invariant-loop-i : goal.invariant-loop-i
invariant-loop-i l = same (drop l.i l.word) (drop l.i l.name) ≡ same l.word l.name
