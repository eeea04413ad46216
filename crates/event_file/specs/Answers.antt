-- What the reader's answers stand for in document 01.
use Rattle.std.specs.Prelude.{ℕ, List, cond, eqb, Some, None, Result, Ok, Err}
use Rattle.std.specs.Prelude as std
use Rattle.std.proofs.Math.Option.{Option, none, some}
use Rattle.rules.specs.declared.Role.{Role}
use Rattle.rules.specs.declared.Role.TheVariants.{Client, Server}
use Rattle.rules.specs.declared.Event.{Event}
use Rattle.rules.specs.declared.refusal.Refusal.{Refusal}
use Rattle.rules.specs.RefusalNumbers.{number_in}
use Rattle.rules.specs.EventFile as file
use Rattle.event_file.specs.declared.reader.Found.{Found}
use Rattle.event_file.specs.declared.reader.Found.TheVariants.{Record, End, Bad}

-- document 01's answer for each case: an event, the file's end, or no good record
abbrev pub shown_found : Found → file.Found
shown_found (Record e) = file.event e
shown_found End = file.end
shown_found Bad = file.bad

-- document 01's refusal number for each case, 0 for none
abbrev pub refusal_of : Found → ℕ
refusal_of (Record e) = 0
refusal_of End = 0
refusal_of Bad = 16

-- "role 0 client or 1 server", read: none for another byte
abbrev pub role_of : ℕ → std.Option Role
role_of byte = cond (eqb byte 0) (Some Client) (cond (eqb byte 1) (Some Server) None)

-- what the code reads where the definitions read an event, or none
abbrev pub read_as : Option Event → std.Option Event
read_as none = None
read_as (some e) = Some e

-- the same with the offset of the byte after the record
abbrev pub with_next : Option Event → ℕ → std.Option (Event × ℕ)
with_next none next = None
with_next (some e) next = Some (e, next)

-- the number in an answer; a refusal leaves the one before
abbrev pub or_kept : ℕ → Result ℕ Refusal → ℕ
or_kept before (Ok n) = n
or_kept before (Err refusal) = before

-- document 01's answer to an opening: "An accepted opening sets the offset to 5, a refused one to 0."
abbrev pub opened_as : Result ℕ Refusal → file.Opened
opened_as answer = record { refusal = number_in answer; offset = or_kept 0 answer }

-- document 01's answer to a write: the bytes filled are those that are answered, and after a refusal those before
abbrev pub written_as : ℕ → Result ℕ Refusal → List ℕ → file.Written
written_as before answer buffer = record { refusal = number_in answer; filled = or_kept before answer; buffer = buffer }
