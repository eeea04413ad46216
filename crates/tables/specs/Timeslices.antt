-- A stored timeslice has its place beside what document 01's rules call a slice.
use Rattle.std.specs.Prelude.{ℕ, List, get_or, set}
use Rattle.rules.specs.declared.Place.{Place}
use Rattle.rules.specs.declared.Place.TheVariants.{Queue}
use Rattle.rules.specs.declared.Timeslice.{Timeslice}
use Rattle.rules.specs.declared.Slice.{Slice}

-- "Free slots hold one fixed value"
abbrev pub free_timeslice : Timeslice
free_timeslice = record { owner = 0; priority = 0; quantum = 0; left = 0; place = Queue }

-- a stored timeslice without its place, and its place
abbrev pub slice_of : Timeslice → Slice
slice_of x = record { owner = x.owner; priority = x.priority; quantum = x.quantum; left = x.left }

abbrev pub place_of : Timeslice → Place
place_of x = x.place

-- a stored timeslice at another place
abbrev pub with_place : Place → Timeslice → Timeslice
with_place p x = record { owner = x.owner; priority = x.priority; quantum = x.quantum; left = x.left; place = p }

-- or with another priority
abbrev pub with_priority : ℕ → Timeslice → Timeslice
with_priority n x = record { owner = x.owner; priority = n; quantum = x.quantum; left = x.left; place = x.place }

-- the table with one of them so
unfoldable pub set_priority : ℕ → ℕ → List Timeslice → List Timeslice
set_priority t n ts = set ts t (with_priority n (get_or ts t free_timeslice))
