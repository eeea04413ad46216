-- Reading and writing repeated: what stepping from an offset collects, and what starting and then appending a list writes.
use Rattle.std.specs.Prelude.{ℕ, zero, suc, List, [], ◌∷◌, length}
use Rattle.std.proofs.Math.Option.{Option, none, some}
use Rattle.rules.specs.declared.Event.{Event}
use Rattle.rules.specs.EventFile.{Found, event, end, bad, joined, stepped, Written, started, appended}

-- what a step found, then the events from the offset that it moved to; none where it found no good record
abbrev pub collected : Found → Option (List Event) → Option (List Event)
collected (event e) left = joined (some e) left
collected end left = some []
collected bad left = none

-- the events found from an offset until the file's end, in at most so many steps
unfoldable pub events_in : ℕ → List ℕ → ℕ → Option (List Event)
events_in zero file at = none
events_in (suc fuel) file at =
    let s = stepped file at in
    collected s.found (events_in fuel file s.offset)

-- a record has two bytes or more, so a file has fewer records than bytes
abbrev pub events_from : List ℕ → ℕ → Option (List Event)
events_from file at = events_in (length file) file at

-- go on, unless the last write was refused
abbrev pub unless_refused : ℕ → Written → Written → Written
unless_refused zero last next = next
unless_refused (suc number) last next = last

-- each event appended to what the last write left; the first refusal ends it and stands as the answer
unfoldable pub appended_all : List Event → Written → Written
appended_all [] last = last
appended_all (e ∷ es) last =
    unless_refused last.refusal last (appended_all es (appended last.buffer last.filled e))

abbrev pub written_all : List Event → List ℕ → Written
written_all es buffer = appended_all es (started buffer)
