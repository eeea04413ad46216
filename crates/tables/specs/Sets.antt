-- The sets of timeslices that are released or chosen from, named by a place, and the answer of a search.
use Rattle.std.specs.Prelude.{ℕ, Bool, Some, None}
use Rattle.std.specs.Prelude as std
use Rattle.std.proofs.Math.Option.{Option, none, some}
use Rattle.rules.specs.declared.Place.{Place}
use Rattle.rules.specs.declared.Place.TheVariants.{Queue, Behind, On, Stalled, Spent}
use Rattle.rules.specs.Release.{in_queue, behind, on_thread, stalled, is_spent}

-- the timeslices at this place
abbrev pub set_of : Place → Place → Bool
set_of Queue = in_queue
set_of (Behind t) = behind t
set_of (On n) = on_thread n
set_of Stalled = stalled
set_of Spent = is_spent

-- what a search found, as the definitions say it
abbrev pub sought_of : std.Option ℕ → Option ℕ
sought_of None = none
sought_of (Some t) = some t

-- a place as two numbers
abbrev pub kind_of : Place → ℕ
kind_of Queue = 0
kind_of (Behind t) = 1
kind_of (On n) = 2
kind_of Stalled = 3
kind_of Spent = 4

abbrev pub number_of : Place → ℕ
number_of Queue = 0
number_of (Behind t) = t
number_of (On n) = n
number_of Stalled = 0
number_of Spent = 0
