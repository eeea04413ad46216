-- A line of the key by its columns.
use Rattle.std.specs.Prelude.{ℕ, List, ◌++◌}
use Rattle.rules.specs.declared.Running.{Running}
use Rattle.rules.specs.Key.{bytes, decimal, columns}

-- event number, refusal number, what runs, links followed
unfoldable pub line_bytes : ℕ → ℕ → Running → ℕ → List ℕ
line_bytes number refusal running links = columns number refusal running ++ bytes " " ++ decimal links ++ bytes "\n"
