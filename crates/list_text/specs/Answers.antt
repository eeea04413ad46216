-- What the functions hand back, and the sentence of a fault.
use Rattle.std.specs.Prelude.{ℕ, Result, Ok, Err, cond, List, ◌++◌, length, drop, eqb}
use Rattle.rules.specs.EventFile.{file_of}
use Rattle.rules.specs.Key.{bytes, decimal}
use Rattle.list_line.specs.Reading.{no_such_event, number_missing, one_too_many, above255, above65535, neither_role, too_long}
use Rattle.list_line.specs.declared.fault.Fault.{Fault}
use Rattle.list_line.specs.Faults.{number_of}
use Rattle.list_text.specs.declared.WrongLine.{WrongLine}
use Rattle.list_text.specs.Reading.{Answer, read, refused}

-- what is wrong, by the fault's number
unfoldable pub fault_words : ℕ → List ℕ
fault_words fault =
    cond (eqb fault no_such_event) (bytes "no such event")
    (cond (eqb fault number_missing) (bytes "a number is missing")
    (cond (eqb fault one_too_many) (bytes "one too many")
    (cond (eqb fault above255) (bytes "above 255")
    (cond (eqb fault above65535) (bytes "above 65,535")
    (cond (eqb fault neither_role) (bytes "neither client nor server")
    (cond (eqb fault too_long) (bytes "too long")
    (bytes "nothing is wrong")))))))

-- the sentence of a fault
unfoldable pub sentence : ℕ → ℕ → List ℕ
sentence line fault = bytes "line " ++ decimal line ++ bytes ": " ++ fault_words fault ++ bytes "\n"

-- what becomes of a list: how many bytes its file has, or the line that is wrong, from 1, and its fault; a line 0 is none
pub record Filed : Type 0 where
  pub bytes : ℕ
  pub line : ℕ
  pub fault : ℕ

-- what an answer of the code says of it
abbrev pub filed_in : Result ℕ WrongLine → Filed
filed_in (Ok bytes) = record { bytes = bytes; line = 0; fault = 0 }
filed_in (Err wrong) = record { bytes = 0; line = wrong.line; fault = number_of wrong.fault }

-- what writing a list's file hands back: how many bytes it has, or which line is wrong and how
unfoldable pub filed_as : Answer → Filed
filed_as (read es) = record { bytes = length (file_of es); line = 0; fault = 0 }
filed_as (refused line fault) = record { bytes = 0; line = line; fault = fault }

-- the whole buffer: the file at its front and every other byte as it was; a refused list changes none
unfoldable pub buffer_as : Answer → List ℕ → List ℕ
buffer_as (read es) before = file_of es ++ drop (length (file_of es)) before
buffer_as (refused line fault) before = before
