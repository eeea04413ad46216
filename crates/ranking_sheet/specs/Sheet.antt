-- What the program `ranking` reads, a ranking table and intervals, and what it prints: the answer to each lookup.
use Rattle.std.specs.Prelude.{ℕ, zero, suc, ◌+◌, ◌-◌, ◌*◌, ◌/◌, ◌%◌, List, [], ◌∷◌, ◌++◌, ◌||◌, ltb, eqb, length, get_or}
use Rattle.rules.specs.EventFile.{word_of}
use Rattle.rules.specs.Refusals.{◌gives◌else◌}
use Rattle.rules.specs.Key.{bytes, decimal, file_line}
use Rattle.ranking_table.specs.declared.Row.{Row}
use Rattle.ranking_table.specs.Ranking.{Answer, lookup}

-- a number of two bytes, "big-endian", from a place on
abbrev pub word_at : List ℕ → ℕ → ℕ
word_at b at = word_of (get_or b at 0) (get_or b (at + 1) 0)

-- "rows of 5 bytes: first (2), last (2), priority (1)"
abbrev pub row_from : List ℕ → ℕ → Row
row_from b at = record { first = word_at b at; last = word_at b (at + 2); priority = get_or b (at + 4) 0 }

unfoldable pub rows_from : List ℕ → ℕ → ℕ → List Row
rows_from b at zero = []
rows_from b at (suc n) = row_from b at ∷ rows_from b (at + 5) n

-- "a byte n; n rows"
abbrev pub rows_in : List ℕ → List Row
rows_in b = rows_from b 1 (get_or b 0 0)

-- "the rest are intervals of 2 bytes"
abbrev pub intervals_at : List ℕ → ℕ
intervals_at b = 1 + 5 * get_or b 0 0

unfoldable pub intervals_from : List ℕ → ℕ → ℕ → List ℕ
intervals_from b at zero = []
intervals_from b at (suc n) = word_at b at ∷ intervals_from b (at + 2) n

abbrev pub intervals_in : List ℕ → List ℕ
intervals_in b = intervals_from b (intervals_at b) ((length b - intervals_at b) / 2)

-- "An empty input, one of more than 65,536 bytes, one cut short in the rows, or half an interval at the end, prints `file 14` alone": an
-- empty input has not even its first byte
unfoldable pub input_refusal : List ℕ → ℕ
input_refusal b =
    ltb 65536 (length b) || ltb (length b) (intervals_at b) || eqb ((length b - intervals_at b) % 2) 1 gives 14 else 0

-- "Each interval prints a line: refusal, priority, interval handed back, single spaces."
unfoldable pub answer_line : Answer → List ℕ
answer_line a = decimal a.refusal ++ bytes " " ++ decimal a.priority ++ bytes " " ++ decimal a.interval ++ bytes "\n"

unfoldable pub answer_lines : List Row → List ℕ → List ℕ
answer_lines rows [] = []
answer_lines rows (i ∷ is) = answer_line (lookup rows i) ++ answer_lines rows is

abbrev pub ranking_after : ℕ → List ℕ → List ℕ
ranking_after zero b = answer_lines (rows_in b) (intervals_in b)
ranking_after (suc number) b = file_line (suc number)

-- all that the program prints
unfoldable pub ranking : List ℕ → List ℕ
ranking b = ranking_after (input_refusal b) b
