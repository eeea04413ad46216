-- How the code counts and writes: line by line. These definitions stand only in contracts of internal functions.
use Rattle.std.specs.Prelude.{ℕ, ◌+◌, ◌≡◌, List, [], ◌∷◌, ◌++◌, Result, Ok, Err, length}
use Rattle.rules.specs.EventFile.{record_of, records_of}
use Rattle.list_line.specs.declared.fault.Fault.{Fault}
use Rattle.list_line.specs.Reading.{Line, Empty, One, Wrong, line_of}
use Rattle.list_line.specs.Faults.{number_of}
use Rattle.list_text.specs.Answers.{Filed}
use Rattle.list_text.specs.Reading.{Answer, read, refused, after_line}

-- what the code counts of an answer, where the file so far has `filled` bytes
abbrev pub counted : ℕ → Answer → Filed
counted filled (read es) = record { bytes = filled + length (records_of es); line = 0; fault = 0 }
counted filled (refused line fault) = record { bytes = 0; line = line; fault = fault }

-- one line, counted: its fault, or how many bytes the file has after it and what the lines after it give
abbrev pub counted_on : ℕ → Result ℕ Fault → (ℕ → Answer) → Filed
counted_on number (Ok after) next = counted after (next after)
counted_on number (Err fault) next = record { bytes = 0; line = number; fault = number_of fault }

pub record Counts (filled : ℕ) (line : Line) (answer : Result ℕ Fault) : Type 0 where
  pub is : (number : ℕ) (next : ℕ → Answer) → counted filled (after_line number filled line next) ≡ counted_on number answer next

-- the records of the lines that hold an event
abbrev pub line_record : Line → List ℕ
line_record Empty = []
line_record (Wrong fault) = []
line_record (One e) = record_of e

unfoldable pub lines_records : List (List ℕ) → List ℕ
lines_records [] = []
lines_records (line ∷ rest) = line_record (line_of line) ++ lines_records rest
