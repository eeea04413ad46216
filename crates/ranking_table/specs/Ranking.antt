-- Document 02, [10], "Ranking table of the survey office": what a lookup answers. All of it is said of intervals and the rows that hold
-- them; `overlap` and `gap` look at each of the 60,000.
use Rattle.std.specs.Prelude.{ℕ, zero, suc, List, [], ◌∷◌, Bool, false, cond, not, ◌&&◌, ◌||◌, leb, ltb, eqb, length, take}
use Rattle.std.specs.Prelude.{⊤, Result, Ok, Err, ◌≡◌}
use Rattle.rules.specs.RefusalNumbers.{number_of}
use Rattle.ranking_table.specs.declared.Row.{Row}
use Rattle.ranking_table.specs.declared.Table.{Table}
use Rattle.ranking_table.specs.declared.Refused.{Refused}

-- "a sensor's message interval, 1 to 60,000 milliseconds"
abbrev pub longest : ℕ
longest = 60000

abbrev pub in_range : ℕ → Bool
in_range i = leb 1 i && leb i longest

-- "Each office edits rows": those of a table that are in use
abbrev pub rows_of : Table → List Row
rows_of table = take table.count table.rows

-- "first and last inclusive"
abbrev pub holds : ℕ → Row → Bool
holds i row = leb row.first i && leb i row.last

-- in how many rows an interval is
unfoldable pub holding : List Row → ℕ → ℕ
holding [] i = 0
holding (row ∷ rows) i = cond (holds i row) (suc (holding rows i)) (holding rows i)

-- "the smallest interval" that a test takes, of n intervals from i on; the one after them where it takes none
unfoldable pub smallest_from : (ℕ → Bool) → ℕ → ℕ → ℕ
smallest_from test i zero = i
smallest_from test i (suc n) = cond (test i) i (smallest_from test (suc i) n)

-- of all intervals; 60,001 where it takes none
abbrev pub smallest : (ℕ → Bool) → ℕ
smallest test = smallest_from test 1 longest

-- there is such an interval
abbrev pub is_there : ℕ → Bool
is_there i = leb i longest

-- "The answer to a gap is the smallest interval missing, and to an overlap the smallest interval in two rows or more"
abbrev pub missing : List Row → ℕ → Bool
missing rows i = eqb (holding rows i) 0

abbrev pub gap : List Row → ℕ
gap rows = smallest (missing rows)

abbrev pub in_two : List Row → ℕ → Bool
in_two rows i = leb 2 (holding rows i)

abbrev pub overlap : List Row → ℕ
overlap rows = smallest (in_two rows)

-- "a row outside the range or with first above last"
abbrev pub bad_row : Row → Bool
bad_row row = not (in_range row.first) || not (in_range row.last) || ltb row.last row.first

unfoldable pub any_bad : List Row → Bool
any_bad [] = false
any_bad (row ∷ rows) = bad_row row || any_bad rows

-- what a lookup answers: refusal 0 where it is accepted
pub record Answer : Type 0 where
  pub refusal : ℕ
  pub priority : ℕ
  pub interval : ℕ

-- "A refused lookup hands back priority 0."
abbrev pub refused : ℕ → ℕ → Answer
refused number interval = record { refusal = number; priority = 0; interval = interval }

-- "An accepted lookup hands back the priority of the row that holds its interval, and interval 0."
abbrev pub accepted : ℕ → Answer
accepted priority = record { refusal = 0; priority = priority; interval = 0 }

-- the answers that the code gives: of a lookup, and of a table that is judged
abbrev pub answer_of : Result ℕ Refused → Answer
answer_of (Ok priority) = accepted priority
answer_of (Err e) = refused (number_of e.refusal) e.interval

abbrev pub judged_of : Result ⊤ Refused → Answer
judged_of (Ok _) = accepted 0
judged_of (Err e) = refused (number_of e.refusal) e.interval

-- what is wrong with a table: "23, a row outside the range or with first above last, or more than 64 rows; 24, overlap; 25, gap; in that
-- order", "with 23 .. the interval handed back is 0"; refusal 0 where it is good
unfoldable pub fault : List Row → Answer
fault rows =
    cond (any_bad rows || ltb 64 (length rows)) (refused 23 0)
    (cond (is_there (overlap rows)) (refused 24 (overlap rows))
    (cond (is_there (gap rows)) (refused 25 (gap rows)) (accepted 0)))

-- "the row that holds its interval": in a good table there is one, and only one
unfoldable pub priority_in : List Row → ℕ → ℕ
priority_in [] i = 0
priority_in (row ∷ rows) i = cond (holds i row) row.priority (priority_in rows i)

-- "A lookup first refuses a bad table with that table's number, then an interval outside 1 to 60,000 with 23."
abbrev pub answer_by : Answer → List Row → ℕ → Answer
answer_by judged rows i =
    cond (eqb judged.refusal 0) (cond (in_range i) (accepted (priority_in rows i)) (refused 23 0)) judged

unfoldable pub lookup : List Row → ℕ → Answer
lookup rows i = answer_by (fault rows) rows i

-- what the code answers where a table was judged so: it hands on what refused the table, of any type that a refusal can be made one of
abbrev pub AnswersBy : {E : Type 0} → (Refused → E → Type 0) → Result ⊤ E → List Row → ℕ → Result ℕ E → Type 0
AnswersBy gives (Err e) rows i result = result ≡ Err e
AnswersBy gives (Ok _) rows i (Ok priority) = answer_of (Ok priority) ≡ answer_by (accepted 0) rows i
AnswersBy gives (Ok _) rows i (Err made) = (e : Refused) × gives e made × (answer_of (Err e) ≡ answer_by (accepted 0) rows i)
