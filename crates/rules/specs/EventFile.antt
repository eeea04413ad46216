-- Document 01, "Event file and key" and "Reading a file": the event file, its reader and its writer.
use Rattle.std.specs.Prelude.{ℕ, zero, suc, ◌+◌, ◌-◌, ◌*◌, ◌/◌, ◌%◌, ◌<◌, List, [], ◌∷◌, ◌++◌, Bool, true, false, cond, not, ◌&&◌, ◌||◌, length, get_or, take, drop, leb, ltb, eqb}
use Rattle.std.proofs.Math.Option.{Option, none, some}
use Rattle.std.proofs.lemmas.List.Edits.{sets}
use Rattle.rules.specs.declared.Role.{Role}
use Rattle.rules.specs.declared.Role.TheVariants.{Client, Server}
use Rattle.rules.specs.declared.Event.{Event}
use Rattle.rules.specs.declared.Event.TheVariants.{Create, Give, Call, Reply, Block, Wake, Charge, Abort, Refill, Remove, Rank}
use Rattle.rules.specs.Tests.{all}
use Rattle.rules.specs.Refusals.{◌gives◌else◌}

-- what a file is given as: each element is a byte
abbrev pub Bytes : List ℕ → Type 0
Bytes l = (i : ℕ) → get_or l i 0 < 256

-- "Quantum and charge are big-endian."
abbrev pub word_of : ℕ → ℕ → ℕ
word_of high low = high * 256 + low

abbrev pub high_byte : ℕ → ℕ
high_byte n = n / 256

abbrev pub low_byte : ℕ → ℕ
low_byte n = n % 256

-- "role 0 client or 1 server"
abbrev pub role_byte : Role → ℕ
role_byte Client = 0
role_byte Server = 1

-- "Kinds: 1 create; 2 give; 3 call; 4 reply; 5 block; 6 wake; 7 charge; 8 abort"; document 02: "Kind 9, refill", "Kind 10,
-- remove", "Kind 11, rank"
abbrev pub kind_of : Event → ℕ
kind_of (Create n r) = 1
kind_of (Give t n priority quantum) = 2
kind_of (Call server) = 3
kind_of Reply = 4
kind_of Block = 5
kind_of (Wake n) = 6
kind_of (Charge units) = 7
kind_of (Abort n) = 8
kind_of (Refill t) = 9
kind_of (Remove n) = 10
kind_of (Rank t priority) = 11

-- "create (thread, role ..); give (timeslice, thread, priority, quantum in 2 bytes); call (server); wake (thread); charge (2 bytes);
-- abort (thread)"; "refill (timeslice)"; "remove (thread)"; "rank (timeslice, priority)"
abbrev pub operands_of : Event → List ℕ
operands_of (Create n r) = n ∷ role_byte r ∷ []
operands_of (Give t n priority quantum) = t ∷ n ∷ priority ∷ high_byte quantum ∷ low_byte quantum ∷ []
operands_of (Call server) = server ∷ []
operands_of Reply = []
operands_of Block = []
operands_of (Wake n) = n ∷ []
operands_of (Charge units) = high_byte units ∷ low_byte units ∷ []
operands_of (Abort n) = n ∷ []
operands_of (Refill t) = t ∷ []
operands_of (Remove n) = n ∷ []
operands_of (Rank t priority) = t ∷ priority ∷ []

-- "A record: one length byte counting what follows it, a kind byte, operands."
abbrev pub record_of : Event → List ℕ
record_of e = suc (length (operands_of e)) ∷ kind_of e ∷ operands_of e

-- "An event handed to the writer holds only what these operands can hold": a byte each. An event of the code and an event read from
-- bytes always do.
abbrev pub byte : ℕ → Bool
byte n = leb n 255

abbrev pub fits : Event → Bool
fits e = all byte (operands_of e)

unfoldable pub all_fit : List Event → Bool
all_fit [] = true
all_fit (e ∷ es) = fits e && all_fit es

unfoldable pub records_of : List Event → List ℕ
records_of [] = []
records_of (e ∷ es) = record_of e ++ records_of es

-- "A length of 4 bytes, big-endian, counting all that follows; one version byte, 01; records."
abbrev pub four_bytes : ℕ → List ℕ
four_bytes n = n / 16777216 ∷ n / 65536 % 256 ∷ n / 256 % 256 ∷ n % 256 ∷ []

unfoldable pub file_of : List Event → List ℕ
file_of es = four_bytes (1 + length (records_of es)) ++ (1 ∷ records_of es)

-- operands: none, one byte, two bytes; none fits another length
abbrev pub no_operand : Event → List ℕ → Option Event
no_operand e [] = some e
no_operand e (a ∷ rest) = none

abbrev pub one_byte : (ℕ → Event) → List ℕ → Option Event
one_byte f [] = none
one_byte f (a ∷ []) = some (f a)
one_byte f (a ∷ b ∷ rest) = none

abbrev pub two_bytes : (ℕ → ℕ → Option Event) → List ℕ → Option Event
two_bytes f [] = none
two_bytes f (a ∷ []) = none
two_bytes f (a ∷ b ∷ []) = f a b
two_bytes f (a ∷ b ∷ c ∷ rest) = none

abbrev pub create_with : ℕ → ℕ → Option Event
create_with n role = cond (eqb role 0) (some (Create n Client)) (cond (eqb role 1) (some (Create n Server)) none)

abbrev pub charge_with : ℕ → ℕ → Option Event
charge_with high low = some (Charge (word_of high low))

abbrev pub rank_with : ℕ → ℕ → Option Event
rank_with t priority = some (Rank t priority)

abbrev pub give_from : List ℕ → Option Event
give_from [] = none
give_from (a ∷ []) = none
give_from (a ∷ b ∷ []) = none
give_from (a ∷ b ∷ c ∷ []) = none
give_from (a ∷ b ∷ c ∷ d ∷ []) = none
give_from (a ∷ b ∷ c ∷ d ∷ e ∷ []) = some (Give a b c (word_of d e))
give_from (a ∷ b ∷ c ∷ d ∷ e ∷ f ∷ rest) = none

-- the kinds, read: the event of that kind with these operands, or none where they do not fit it
abbrev pub event_of : ℕ → List ℕ → Option Event
event_of kind operands =
    cond (eqb kind 1) (two_bytes create_with operands)
    (cond (eqb kind 2) (give_from operands)
    (cond (eqb kind 3) (one_byte Call operands)
    (cond (eqb kind 4) (no_operand Reply operands)
    (cond (eqb kind 5) (no_operand Block operands)
    (cond (eqb kind 6) (one_byte Wake operands)
    (cond (eqb kind 7) (two_bytes charge_with operands)
    (cond (eqb kind 8) (one_byte Abort operands)
    (cond (eqb kind 9) (one_byte Refill operands)
    (cond (eqb kind 10) (one_byte Remove operands)
    (cond (eqb kind 11) (two_bytes rank_with operands) none))))))))))

abbrev pub body_of : List ℕ → Option Event
body_of [] = none
body_of (kind ∷ operands) = event_of kind operands

-- the event whose record begins these bytes; none for "a record with unknown kind, wrong length, role above 1, or running past the end"
unfoldable pub record_at : List ℕ → Option Event
record_at [] = none
record_at (n ∷ rest) = cond (leb n (length rest)) (body_of (take n rest)) none

abbrev pub joined : Option Event → Option (List Event) → Option (List Event)
joined none es = none
joined (some e) none = none
joined (some e) (some es) = some (e ∷ es)

-- the events of these bytes, of which the first few still belong to a record that has been read
unfoldable pub events_after : ℕ → List ℕ → Option (List Event)
events_after zero [] = some []
events_after (suc k) [] = none
events_after zero (n ∷ rest) = joined (record_at (n ∷ rest)) (events_after n rest)
events_after (suc k) (b ∷ rest) = events_after k rest

abbrev pub length_field : List ℕ → ℕ
length_field file = word_of (word_of (word_of (get_or file 0 0) (get_or file 1 0)) (get_or file 2 0)) (get_or file 3 0)

-- "14 (fewer than 4 bytes, more than 65,536 bytes, length field 0 or not the bytes that follow it), 15 (version not 1)"
abbrev pub head_refusal : List ℕ → ℕ
head_refusal file =
    ltb (length file) 4 || ltb 65536 (length file) || eqb (length_field file) 0 || not (eqb (length_field file + 4) (length file))
    gives 14 else
    not (eqb (get_or file 4 0) 1) gives 15 else 0

-- the events of a file after its first 5 bytes; none where a record is not good
abbrev pub records_in : List ℕ → Option (List Event)
records_in file = events_after 0 (drop 5 file)

abbrev pub is_none : Option (List Event) → Bool
is_none none = true
is_none (some es) = false

-- "Opening checks the whole file."
abbrev pub file_refusal_after : ℕ → List ℕ → ℕ
file_refusal_after zero file = is_none (records_in file) gives 16 else 0
file_refusal_after (suc number) file = suc number

unfoldable pub file_refusal : List ℕ → ℕ
file_refusal file = file_refusal_after (head_refusal file) file

-- the events of an accepted file
abbrev pub or_none : Option (List Event) → List Event
or_none none = []
or_none (some es) = es

unfoldable pub events_of : List ℕ → List Event
events_of file = or_none (records_in file)

-- "An accepted opening sets the offset to 5, a refused one to 0."
pub record Opened : Type 0 where
  pub refusal : ℕ
  pub offset : ℕ

abbrev pub opened_as : ℕ → Opened
opened_as zero = record { refusal = 0; offset = 5 }
opened_as (suc number) = record { refusal = suc number; offset = 0 }

unfoldable pub opened : List ℕ → Opened
opened file = opened_as (file_refusal file)

-- what a step finds: an event, the file's end, or no good record
pub data Found : Type 0 where
  event : Event → Found
  end : Found
  bad : Found

pub record Stepped : Type 0 where
  pub found : Found
  pub refusal : ℕ
  pub offset : ℕ

-- "A step that reads a record moves the offset to the byte after it." The others keep the offset.
abbrev pub stepped_to : ℕ → ℕ → Option Event → Stepped
stepped_to at next none = record { found = bad; refusal = 16; offset = at }
stepped_to at next (some e) = record { found = event e; refusal = 0; offset = next }

-- "A step first gives 16 at an offset below 5 or past the end; then, at the file's end, it says so; then it gives 16 where no good
-- record begins."
unfoldable pub stepped : List ℕ → ℕ → Stepped
stepped file at =
    cond (ltb at 5 || ltb (length file) at) (record { found = bad; refusal = 16; offset = at })
    (cond (eqb at (length file)) (record { found = end; refusal = 0; offset = at })
    (stepped_to at (at + 1 + get_or file at 0) (record_at (drop at file))))

-- what writing hands back: the refusal number, the bytes filled, and the whole buffer
pub record Written : Type 0 where
  pub refusal : ℕ
  pub filled : ℕ
  pub buffer : List ℕ

-- "Starting a file writes 5 bytes; 17 in a smaller buffer."
unfoldable pub started : List ℕ → Written
started buffer =
    cond (ltb (length buffer) 5) (record { refusal = 17; filled = 0; buffer = buffer })
    (record { refusal = 0; filled = 5; buffer = sets buffer 0 (file_of []) })

-- "14 (also if that passes the buffer), 15, 16 of that file, then 17 (the record would pass the buffer or 65,536 bytes)"
abbrev pub room_refusal : ℕ → ℕ → ℕ
room_refusal after room = ltb room after || ltb 65536 after gives 17 else 0

abbrev pub append_refusal_after : ℕ → List ℕ → ℕ → Event → ℕ
append_refusal_after zero buffer filled e = room_refusal (filled + length (record_of e)) (length buffer)
append_refusal_after (suc number) buffer filled e = suc number

unfoldable pub append_refusal : List ℕ → ℕ → Event → ℕ
append_refusal buffer filled e =
    ltb (length buffer) filled gives 14 else
    append_refusal_after (file_refusal (take filled buffer)) buffer filled e

-- "A write adds the record, renews the length field and touches no other byte."
abbrev pub appended_as : ℕ → List ℕ → ℕ → Event → Written
appended_as zero buffer filled e =
    record {
      refusal = 0;
      filled = filled + length (record_of e);
      buffer = sets (sets buffer filled (record_of e)) 0 (four_bytes (filled + length (record_of e) - 4));
    }
appended_as (suc number) buffer filled e = record { refusal = suc number; filled = filled; buffer = buffer }

unfoldable pub appended : List ℕ → ℕ → Event → Written
appended buffer filled e = appended_as (append_refusal buffer filled e) buffer filled e
