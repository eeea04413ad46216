-- Document 01, "Event file and key": the key that the key program prints.
use Rattle.std.specs.Prelude.{ℕ, zero, suc, ◌+◌, ◌/◌, ◌%◌, List, [], ◌∷◌, ◌++◌, Bool, true, false, cond, not, ◌&&◌, ◌||◌, ltb, eqb}
use Prim.Native.Char.{code}
use Prim.Native.String.{String, [] as no_text, ◌∷◌ as ◌then◌}
use Rattle.rules.specs.declared.Running.{Running}
use Rattle.rules.specs.declared.Running.TheVariants.{Nothing, Runs}
use Rattle.rules.specs.State.{empty}
use Rattle.rules.specs.Events.{Answered}
use Rattle.rules.specs.Plain.{empty_plain, PlainAnswered}
use Rattle.rules.specs.Lists.{run, plain_run}
use Rattle.rules.specs.EventFile.{file_refusal, events_of}

-- a text as its bytes
unfoldable pub bytes : String → List ℕ
bytes no_text = []
bytes (c then s) = code c ∷ bytes s

-- a number in decimal digits; the first argument bounds how many there are, the last says whether one is left
abbrev pub digit : ℕ → ℕ
digit n = 48 + n

unfoldable pub digits : ℕ → ℕ → Bool → List ℕ
digits zero n last = []
digits (suc k) n true = digit n ∷ []
digits (suc k) n false = digits k (n / 10) (ltb (n / 10) 10) ++ (digit (n % 10) ∷ [])

unfoldable pub decimal : ℕ → List ℕ
decimal n = digits (suc n) n (ltb n 10)

-- "the bytes `ok` or `no`"
abbrev pub verdict_word : ℕ → List ℕ
verdict_word zero = bytes "ok"
verdict_word (suc number) = bytes "no"

-- "running thread or `-`, timeslice or `-`, donation count"
abbrev pub running_columns : Running → List ℕ
running_columns Nothing = bytes "- - 0"
running_columns (Runs n t count) = decimal n ++ bytes " " ++ decimal t ++ bytes " " ++ decimal count

-- "event number from 1, the bytes `ok` or `no`, refusal number", and the running columns: all but the last column
unfoldable pub columns : ℕ → ℕ → Running → List ℕ
columns number refusal running =
    decimal number ++ bytes " " ++ verdict_word refusal ++ bytes " " ++ decimal refusal ++ bytes " " ++ running_columns running

-- "links followed; single spaces, a line feed"
unfoldable pub line : ℕ → Answered → List ℕ
line number a = columns number a.refusal a.state.running ++ bytes " " ++ decimal a.links ++ bytes "\n"

unfoldable pub lines : ℕ → List Answered → List ℕ
lines number [] = []
lines number (a ∷ rest) = line number a ++ lines (number + 1) rest

-- "A refused file prints one line: `file`, a space, the number."
unfoldable pub file_line : ℕ → List ℕ
file_line number = bytes "file " ++ decimal number ++ bytes "\n"

abbrev pub key_after : ℕ → List ℕ → List ℕ
key_after zero file = lines 1 (run (events_of file) empty)
key_after (suc number) file = file_line (suc number)

-- the whole key of a file
unfoldable pub key : List ℕ → List ℕ
key file = key_after (file_refusal file) file

-- the key without its last column
unfoldable pub short_lines : ℕ → List Answered → List ℕ
short_lines number [] = []
short_lines number (a ∷ rest) = columns number a.refusal a.state.running ++ bytes "\n" ++ short_lines (number + 1) rest

abbrev pub short_key_after : ℕ → List ℕ → List ℕ
short_key_after zero file = short_lines 1 (run (events_of file) empty)
short_key_after (suc number) file = file_line (suc number)

unfoldable pub short_key : List ℕ → List ℕ
short_key file = short_key_after (file_refusal file) file

-- the plain machine's key, which has no last column
unfoldable pub plain_lines : ℕ → List PlainAnswered → List ℕ
plain_lines number [] = []
plain_lines number (a ∷ rest) = columns number a.refusal a.plain.running ++ bytes "\n" ++ plain_lines (number + 1) rest

abbrev pub plain_key_after : ℕ → List ℕ → List ℕ
plain_key_after zero file = plain_lines 1 (plain_run (events_of file) empty_plain)
plain_key_after (suc number) file = file_line (suc number)

unfoldable pub plain_key : List ℕ → List ℕ
plain_key file = plain_key_after (file_refusal file) file

-- Document 02, [1]: "each event's line without its last column", said of the bytes of a key: of every line, the last space and what follows
-- it up to the line feed are left out. Here: no space comes before the line's end,
unfoldable pub no_space_left : List ℕ → Bool
no_space_left [] = true
no_space_left (b ∷ rest) = eqb b 10 || not (eqb b 32) && no_space_left rest

-- and the bytes that stay, from here on, within a last column or not
unfoldable pub without_last_from : Bool → List ℕ → List ℕ
without_last_from inside [] = []
without_last_from inside (b ∷ rest) =
    cond (eqb b 10) (b ∷ without_last_from false rest)
    (cond (inside || eqb b 32 && no_space_left rest) (without_last_from true rest) (b ∷ without_last_from false rest))

abbrev pub without_last : List ℕ → List ℕ
without_last key = without_last_from false key

-- the line of a refused file, which this number refuses, has no last column
abbrev pub but_last : ℕ → List ℕ → List ℕ
but_last zero key = without_last key
but_last (suc number) key = key
