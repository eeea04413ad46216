-- The definitions, computed.
use Prim.Native.Nat.{ℕ}
use Prim.Native.String.{String}
use mathlib.Core.Path.{◌≡◌, refl}
use mathlib.Core.Bool.{Bool, true, false}
use mathlib.Core.List.{List, [], ◌∷◌, ◌++◌}
use Rattle.rules.specs.declared.Role.TheVariants.{Client, Server}
use Rattle.rules.specs.declared.Event.{Event}
use Rattle.rules.specs.declared.Event.TheVariants.{Create, Give, Call, Reply, Block, Wake, Charge, Abort, Refill, Remove, Rank}
use Rattle.rules.specs.Tests.{all}
use Rattle.rules.specs.Key.{bytes, digits, decimal}
use Rattle.list_line.specs.Reading.{parts, uncommented, not_empty, words_of, same, value_from, value, event_named, line_of}
use Rattle.list_writer.specs.Writing.{event_words, text_of}
use Rattle.list_text.specs.Form.{all_plain, plain_lines, in_written_form}
use Rattle.list_text.specs.Reading.{Answer, read, refused, read_lines, read_text}

-- one event of each kind
events : List Event
events =
    Create 10 Server ∷ Create 0 Client ∷ Give 0 0 40 100 ∷ Call 10 ∷ Reply ∷ Block ∷ Wake 3 ∷ Charge 65535 ∷ Abort 2 ∷ Refill 0
    ∷ Remove 10 ∷ Rank 0 200 ∷ []

text : List ℕ
text =
    bytes "create 10 server\ncreate 0 client\ngive 0 0 40 100\ncall 10\nreply\nblock\nwake 3\ncharge 65535\nabort 2\nrefill 0\n"
    ++ bytes "remove 10\nrank 0 200\n"

written : text_of events ≡ text
unfolding text_of event_words bytes decimal digits events text
written = refl

answer : String → Answer
answer s = read_text (bytes s)

read_back : read_text text ≡ read events
unfolding read_text read_lines line_of event_named value value_from all same words_of not_empty uncommented parts bytes events text
read_back = refl

-- comments, empty lines, blanks, leading zeros, and a last line without a line feed are read
loose : answer "# a server\n\n  call\t010 \r\n reply# at once\nblock" ≡ read (Call 10 ∷ Reply ∷ Block ∷ [])
unfolding answer read_text read_lines line_of event_named value value_from all same words_of not_empty uncommented parts bytes
loose = refl

-- each fault, in the line where it is
faults :
    (answer "reply\nReply\n" ≡ refused 2 1) × (answer "call" ≡ refused 1 2) × (answer "call ten" ≡ refused 1 2)
    × (answer "create 1" ≡ refused 1 2) × (answer "reply\n\nreply 1" ≡ refused 3 3) × (answer "call 256 7" ≡ refused 1 4)
    × (answer "charge 65536" ≡ refused 1 5) × (answer "create 1 Server" ≡ refused 1 6) × (answer "give 0 0 40 -1" ≡ refused 1 2)
unfolding answer read_text read_lines line_of event_named value value_from all same words_of not_empty uncommented parts bytes
faults = (refl, refl, refl, refl, refl, refl, refl, refl, refl)

-- the written form
form : String → Bool
form s = in_written_form (bytes s)

in_form : in_written_form text ≡ true
unfolding in_written_form plain_lines all_plain all parts bytes text
in_form = refl

not_in_form :
    (form "reply" ≡ false) × (form "\nreply\n" ≡ false) × (form " reply\n" ≡ false) × (form "reply \n" ≡ false) ×
    (form "call  10\n" ≡ false)
    × (form "call 010\n" ≡ false) × (form "Reply\n" ≡ false) × (form "reply # at once\n" ≡ false) × (form "call\t10\n" ≡ false)
unfolding form in_written_form plain_lines all_plain all parts bytes
not_in_form = (refl, refl, refl, refl, refl, refl, refl, refl, refl)
