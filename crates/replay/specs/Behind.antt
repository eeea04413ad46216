-- An event file behind the first bytes of an input, which say what is to be done with it.
use Rattle.std.specs.Prelude.{ℕ, List, ltb, length, drop}
use Rattle.rules.specs.Refusals.{◌gives◌else◌}
use Rattle.rules.specs.EventFile.{file_refusal}

-- "An input cut short before the file prints `file 14`; a refused file prints its `file` line."
unfoldable pub refusal_behind : ℕ → List ℕ → ℕ
refusal_behind at input = ltb (length input) at gives 14 else file_refusal (drop at input)
