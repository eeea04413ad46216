-- The faults that the code names, by the numbers of the definitions, and what it answers, as the line that the definitions say.
use Rattle.std.specs.Prelude.{ℕ, Result, Ok, Err, Option, Some, None}
use Rattle.rules.specs.declared.Event.{Event}
use Rattle.list_line.specs.declared.fault.Fault.{Fault}
use Rattle.list_line.specs.declared.fault.Fault.TheVariants.{NoSuchEvent, Missing, OneTooMany, Above255, Above65535, NeitherRole, TooLong}
use Rattle.list_line.specs.Reading.{Line, Empty, One, Wrong}
use Rattle.list_line.specs.Reading.{no_such_event, number_missing, one_too_many, above255, above65535, neither_role, too_long}

abbrev pub number_of : Fault → ℕ
number_of NoSuchEvent = no_such_event
number_of Missing = number_missing
number_of OneTooMany = one_too_many
number_of Above255 = above255
number_of Above65535 = above65535
number_of NeitherRole = neither_role
number_of TooLong = too_long

-- a fault ends the line; what was taken without one goes on
abbrev pub after : {A : Type 0} → Result A Fault → (A → Line) → Line
after (Ok a) next = next a
after (Err fault) next = Wrong (number_of fault)

-- the line of an event that was read, and of what a whole line says
abbrev pub event_in : Result Event Fault → Line
event_in answer = after answer One

abbrev pub event_or_none : Option Event → Line
event_or_none None = Empty
event_or_none (Some e) = One e

abbrev pub line_in : Result (Option Event) Fault → Line
line_in answer = after answer event_or_none
