-- A list of events in words, read: line by line, then the whole list.
use Rattle.std.specs.Prelude.{ℕ, ◌+◌, List, [], ◌∷◌, cond, length, take, ltb}
use Rattle.rules.specs.declared.Event.{Event}
use Rattle.rules.specs.EventFile.{record_of}
use Rattle.list_line.specs.Reading.{Line, Empty, One, Wrong, too_long, parts, line_feed, line_of}

-- what reading a list gives: the events, or the number of the first line that is wrong and its fault
pub data Answer : Type 0 where
  read : List Event → Answer
  refused : ℕ → ℕ → Answer

abbrev pub with_event : Event → Answer → Answer
with_event e (read es) = read (e ∷ es)
with_event e (refused line fault) = refused line fault

-- one line, where the file so far has `filled` bytes; then the lines after it
abbrev pub after_line : ℕ → ℕ → Line → (ℕ → Answer) → Answer
after_line line filled Empty next = next filled
after_line line filled (Wrong fault) next = refused line fault
after_line line filled (One e) next =
    cond (ltb 65536 (filled + length (record_of e))) (refused line too_long) (with_event e (next (filled + length (record_of e))))

unfoldable pub read_lines : ℕ → ℕ → List (List ℕ) → Answer
read_lines line filled [] = read []
read_lines line filled (bytes ∷ rest) = after_line line filled (line_of bytes) (λ filled. read_lines (line + 1) filled rest)

-- the line in which a byte stands that comes after these
unfoldable pub line_after : ℕ → List ℕ → ℕ
line_after line [] = line
line_after line (b ∷ rest) = line_after (cond (line_feed b) (line + 1) line) rest

-- a text of more than 1,048,576 bytes is too long in the line where it has one more; an empty file has 5 bytes
unfoldable pub read_text : List ℕ → Answer
read_text text =
    cond (ltb 1048576 (length text)) (refused (line_after 1 (take 1048576 text)) too_long)
    (read_lines 1 5 (parts line_feed text))
