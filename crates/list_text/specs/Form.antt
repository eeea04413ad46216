-- The written form of a list, said of its bytes: lower case letters and digits, single spaces between words, none at a line's beginning or
-- end, no number with a leading zero but 0 itself, every line ended by a line feed, no empty line.
use Rattle.std.specs.Prelude.{ℕ, List, [], ◌∷◌, Bool, true, false, not, ◌&&◌, ◌||◌, leb, eqb}
use Rattle.rules.specs.Tests.{all}
use Rattle.list_line.specs.Reading.{digit_byte, line_feed, parts}

abbrev pub letter_or_digit : ℕ → Bool
letter_or_digit b = (leb 97 b && leb b 122) || digit_byte b

-- a number of two digits or more begins with another digit than 0
abbrev pub leading_zero : List ℕ → Bool
leading_zero [] = false
leading_zero (b ∷ []) = false
leading_zero (b ∷ c ∷ rest) = eqb b 48 && all digit_byte (b ∷ c ∷ rest)

abbrev pub is_empty : List ℕ → Bool
is_empty [] = true
is_empty (b ∷ rest) = false

abbrev pub plain_word : List ℕ → Bool
plain_word word = not (is_empty word) && all letter_or_digit word && not (leading_zero word)

-- between two spaces, and at both ends of a line, stands a word
abbrev pub space : ℕ → Bool
space b = eqb b 32

unfoldable pub all_plain : List (List ℕ) → Bool
all_plain [] = true
all_plain (word ∷ rest) = plain_word word && all_plain rest

abbrev pub plain_line : List ℕ → Bool
plain_line line = all_plain (parts space line)

-- after the last line feed stands nothing
unfoldable pub plain_lines : List (List ℕ) → Bool
plain_lines [] = false
plain_lines (line ∷ []) = is_empty line
plain_lines (line ∷ next ∷ rest) = plain_line line && plain_lines (next ∷ rest)

unfoldable pub in_written_form : List ℕ → Bool
in_written_form text = plain_lines (parts line_feed text)
