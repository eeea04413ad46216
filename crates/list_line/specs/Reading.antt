-- A list of events in words, read: the lines, the words of a line, the event of its words.
use Rattle.std.specs.Prelude.{ℕ, ◌+◌, ◌-◌, ◌*◌, List, [], ◌∷◌, Bool, true, false, cond, ◌&&◌, ◌||◌, leb, eqb}
use Rattle.rules.specs.declared.Role.{Role}
use Rattle.rules.specs.declared.Role.TheVariants.{Client, Server}
use Rattle.rules.specs.declared.Event.{Event}
use Rattle.rules.specs.declared.Event.TheVariants.{Create, Give, Call, Reply, Block, Wake, Charge, Abort, Refill, Remove, Rank}
use Rattle.rules.specs.Tests.{all}
use Rattle.rules.specs.Key.{bytes}

-- what a line holds: nothing, an event, or a fault by its number
pub data Line : Type 0 where
  Empty : Line
  One : Event → Line
  Wrong : ℕ → Line

-- the faults and their numbers
abbrev pub no_such_event : ℕ
no_such_event = 1

abbrev pub number_missing : ℕ
number_missing = 2

abbrev pub one_too_many : ℕ
one_too_many = 3

abbrev pub above255 : ℕ
above255 = 4

abbrev pub above65535 : ℕ
above65535 = 5

abbrev pub neither_role : ℕ
neither_role = 6

abbrev pub too_long : ℕ
too_long = 7

-- the parts of a text between the bytes that pass a test
abbrev pub on_first : ℕ → List (List ℕ) → List (List ℕ)
on_first b [] = (b ∷ []) ∷ []
on_first b (part ∷ rest) = (b ∷ part) ∷ rest

unfoldable pub parts : (ℕ → Bool) → List ℕ → List (List ℕ)
parts test [] = [] ∷ []
parts test (b ∷ rest) = cond (test b) ([] ∷ parts test rest) (on_first b (parts test rest))

-- a line ends at a line feed
abbrev pub line_feed : ℕ → Bool
line_feed b = eqb b 10

-- `#` starts a comment that goes to the line's end
abbrev pub hash : ℕ → Bool
hash b = eqb b 35

abbrev pub first_of : List (List ℕ) → List ℕ
first_of [] = []
first_of (part ∷ rest) = part

unfoldable pub uncommented : List ℕ → List ℕ
uncommented line = first_of (parts hash line)

-- words stand between blanks: space, tab, carriage return
abbrev pub blank : ℕ → Bool
blank b = eqb b 32 || eqb b 9 || eqb b 13

abbrev pub if_some : List ℕ → List (List ℕ) → List (List ℕ)
if_some [] words = words
if_some (b ∷ part) words = (b ∷ part) ∷ words

unfoldable pub not_empty : List (List ℕ) → List (List ℕ)
not_empty [] = []
not_empty (part ∷ rest) = if_some part (not_empty rest)

unfoldable pub words_of : List ℕ → List (List ℕ)
words_of line = not_empty (parts blank line)

-- a word is another, byte for byte
unfoldable pub same : List ℕ → List ℕ → Bool
same [] [] = true
same [] (c ∷ d) = false
same (a ∷ b) [] = false
same (a ∷ b) (c ∷ d) = eqb a c && same b d

-- a number is a word of decimal digits only
abbrev pub digit_byte : ℕ → Bool
digit_byte b = leb 48 b && leb b 57

unfoldable pub value_from : ℕ → List ℕ → ℕ
value_from n [] = n
value_from n (b ∷ rest) = value_from (n * 10 + (b - 48)) rest

unfoldable pub value : List ℕ → ℕ
value word = value_from 0 word

-- a number up to the most there can be stands first of the words that are left; then the others are looked at
abbrev pub number : ℕ → ℕ → List (List ℕ) → (ℕ → List (List ℕ) → Line) → Line
number most above [] next = Wrong number_missing
number most above (word ∷ rest) next =
    cond (all digit_byte word) (cond (leb (value word) most) (next (value word) rest) (Wrong above)) (Wrong number_missing)

abbrev pub byte_number : List (List ℕ) → (ℕ → List (List ℕ) → Line) → Line
byte_number = number 255 above255

abbrev pub wide_number : List (List ℕ) → (ℕ → List (List ℕ) → Line) → Line
wide_number = number 65535 above65535

abbrev pub role : List (List ℕ) → (Role → List (List ℕ) → Line) → Line
role [] next = Wrong number_missing
role (word ∷ rest) next =
    cond (same word (bytes "client")) (next Client rest) (cond (same word (bytes "server")) (next Server rest) (Wrong neither_role))

-- no word is left
abbrev pub last : Event → List (List ℕ) → Line
last e [] = One e
last e (word ∷ rest) = Wrong one_too_many

-- the operands of each kind
abbrev pub create : List (List ℕ) → Line
create words = byte_number words (λ n words. role words (λ r. last (Create n r)))

abbrev pub give : List (List ℕ) → Line
give words =
    byte_number words (λ t words. byte_number words (λ n words. byte_number words (λ priority words. wide_number words (λ quantum.
    last (Give t n priority quantum)))))

abbrev pub call : List (List ℕ) → Line
call words = byte_number words (λ n. last (Call n))

abbrev pub wake : List (List ℕ) → Line
wake words = byte_number words (λ n. last (Wake n))

abbrev pub charge : List (List ℕ) → Line
charge words = wide_number words (λ units. last (Charge units))

abbrev pub abort : List (List ℕ) → Line
abort words = byte_number words (λ n. last (Abort n))

abbrev pub refill : List (List ℕ) → Line
refill words = byte_number words (λ t. last (Refill t))

abbrev pub remove : List (List ℕ) → Line
remove words = byte_number words (λ n. last (Remove n))

abbrev pub rank : List (List ℕ) → Line
rank words = byte_number words (λ t words. byte_number words (λ priority. last (Rank t priority)))

-- the event that the first word names
unfoldable pub event_named : List ℕ → List (List ℕ) → Line
event_named word words =
    cond (same word (bytes "create")) (create words)
    (cond (same word (bytes "give")) (give words)
    (cond (same word (bytes "call")) (call words)
    (cond (same word (bytes "reply")) (last Reply words)
    (cond (same word (bytes "block")) (last Block words)
    (cond (same word (bytes "wake")) (wake words)
    (cond (same word (bytes "charge")) (charge words)
    (cond (same word (bytes "abort")) (abort words)
    (cond (same word (bytes "refill")) (refill words)
    (cond (same word (bytes "remove")) (remove words)
    (cond (same word (bytes "rank")) (rank words)
    (Wrong no_such_event)))))))))))

abbrev pub line_of_words : List (List ℕ) → Line
line_of_words [] = Empty
line_of_words (word ∷ rest) = event_named word rest

unfoldable pub line_of : List ℕ → Line
line_of line = line_of_words (words_of (uncommented line))
