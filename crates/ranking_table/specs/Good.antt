-- What the theorems say of a table, by the numbers of its rows, from 0: good, an interval in exactly one row, in two rows, in none.
use Rattle.std.specs.Prelude.{ℕ, ◌≤◌, ◌<◌, ◌≡◌, List, Bool, Option, Some, None, cond, ltb, length, get_or}
use Rattle.ranking_table.specs.declared.Row.{Row}
use Rattle.ranking_table.specs.Ranking.{Answer, refused, accepted, is_there}

-- past the last row
abbrev pub no_row : Row
no_row = record { first = 0; last = 0; priority = 0 }

abbrev pub row_at : List Row → ℕ → Row
row_at rows k = get_or rows k no_row

-- "1 to 60,000 milliseconds"
abbrev pub Interval : ℕ → Type 0
Interval i = (1 ≤ i) × (i ≤ 60000)

-- an interval is in row k: "first and last inclusive"
pub record In (rows : List Row) (i k : ℕ) : Type 0 where
  pub listed : k < length rows
  pub from : (row_at rows k).first ≤ i
  pub to : i ≤ (row_at rows k).last

-- "in exactly one row"
pub record InOne (rows : List Row) (i : ℕ) : Type 0 where
  pub row : ℕ
  pub holds : In rows i row
  pub only : (k : ℕ) → In rows i k → k ≡ row

-- "in two rows or more"
pub record InTwo (rows : List Row) (i : ℕ) : Type 0 where
  pub one : ℕ
  pub other : ℕ
  pub apart : one < other
  pub holds_one : In rows i one
  pub holds_other : In rows i other

-- "missing"
abbrev pub Missing : List Row → ℕ → Type 0
Missing rows i = (k : ℕ) → In rows i k → ⊥

-- within the range, and first not above last
pub record Within (row : Row) : Type 0 where
  pub low : 1 ≤ row.first
  pub ordered : row.first ≤ row.last
  pub high : row.last ≤ 60000

-- "up to 64 rows"
pub record Formed (rows : List Row) : Type 0 where
  pub few : length rows ≤ 64
  pub within : (k : ℕ) → k < length rows → Within (row_at rows k)

-- "The table is good only if every interval is in exactly one row."
pub record Good (rows : List Row) : Type 0 where
  pub formed : Formed rows
  pub once : (i : ℕ) → Interval i → InOne rows i

-- an interval, and the smallest of which something is true
pub record SmallestOf (P : ℕ → Type 0) (i : ℕ) : Type 0 where
  pub interval : Interval i
  pub holds : P i
  pub smallest : (j : ℕ) → 1 ≤ j → P j → i ≤ j

-- a row that is not: number and reason of a refusal with 23
pub record Bad (rows : List Row) : Type 0 where
  pub number : ℕ
  pub listed : number < length rows
  pub not_within : Within (row_at rows number) → ⊥

-- all that a table can be judged to be, and what is true of its rows then
pub data Judged (rows : List Row) : Answer → Type 0 where
  -- "23, a row outside the range or with first above last, or more than 64 rows"
  too_many : 64 < length rows → Judged rows (refused 23 0)
  a_bad_row : Bad rows → Judged rows (refused 23 0)
  -- "24, overlap": "the smallest interval in two rows or more"
  overlapping : (j : ℕ) → Formed rows → SmallestOf (InTwo rows) j → Judged rows (refused 24 j)
  -- "25, gap": "the smallest interval missing", where none is in two rows
  gaping : (j : ℕ) → Formed rows → SmallestOf (Missing rows) j → ((k : ℕ) → Interval k → InTwo rows k → ⊥) → Judged rows (refused 25 j)
  good : Good rows → Judged rows (accepted 0)

-- all that a lookup can answer, and what is true of table and interval then
pub data Outcome (rows : List Row) (i : ℕ) : Answer → Type 0 where
  -- "A lookup first refuses a bad table with that table's number, .."
  bad_table : {a : Answer} → Judged rows a → (a.refusal ≡ 0 → ⊥) → Outcome rows i a
  -- ".. then an interval outside 1 to 60,000 with 23."
  outside : Good rows → (Interval i → ⊥) → Outcome rows i (refused 23 0)
  -- "the priority of the row that holds its interval, and interval 0"
  found : Good rows → Interval i → (one : InOne rows i) → Outcome rows i (accepted (row_at rows one.row).priority)

-- what the code finds: no interval where the search of the definitions ends past the longest
abbrev pub there : ℕ → Option ℕ
there i = cond (is_there i) (Some i) None

-- what the code tries one by one: a candidate that a test takes, if it is below the best so far
abbrev pub better : (ℕ → Bool) → ℕ → ℕ → ℕ
better test best i = cond (ltb i best) (cond (test i) i best) best
