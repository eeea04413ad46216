-- A list of events, written: one event a line, lower case words, single spaces, plain decimals, a line feed after each event.
use Rattle.std.specs.Prelude.{ℕ, zero, suc, List, [], ◌∷◌, ◌++◌}
use Rattle.rules.specs.declared.Role.{Role}
use Rattle.rules.specs.declared.Role.TheVariants.{Client, Server}
use Rattle.rules.specs.declared.Event.{Event}
use Rattle.rules.specs.declared.Event.TheVariants.{Create, Give, Call, Reply, Block, Wake, Charge, Abort, Refill, Remove, Rank}
use Rattle.rules.specs.EventFile.{file_refusal, events_of}
use Rattle.rules.specs.Key.{bytes, decimal, file_line}

abbrev pub role_word : Role → List ℕ
role_word Client = bytes "client"
role_word Server = bytes "server"

-- the words of an event
unfoldable pub event_words : Event → List ℕ
event_words (Create n r) = bytes "create " ++ decimal n ++ bytes " " ++ role_word r
event_words (Give t n priority quantum) =
    bytes "give " ++ decimal t ++ bytes " " ++ decimal n ++ bytes " " ++ decimal priority ++ bytes " " ++ decimal quantum
event_words (Call server) = bytes "call " ++ decimal server
event_words Reply = bytes "reply"
event_words Block = bytes "block"
event_words (Wake n) = bytes "wake " ++ decimal n
event_words (Charge units) = bytes "charge " ++ decimal units
event_words (Abort n) = bytes "abort " ++ decimal n
event_words (Refill t) = bytes "refill " ++ decimal t
event_words (Remove n) = bytes "remove " ++ decimal n
event_words (Rank t priority) = bytes "rank " ++ decimal t ++ bytes " " ++ decimal priority

unfoldable pub text_of : List Event → List ℕ
text_of [] = []
text_of (e ∷ es) = event_words e ++ bytes "\n" ++ text_of es

-- an event file as a list in words; a refused file as the key program's line
abbrev pub text_after : ℕ → List ℕ → List ℕ
text_after zero file = text_of (events_of file)
text_after (suc number) file = file_line (suc number)

unfoldable pub file_text : List ℕ → List ℕ
file_text file = text_after (file_refusal file) file
