-- The search of a set along the turn order: its topmost timeslice, and whether it has others.
use Rattle.std.specs.Prelude.{ℕ, List, map, Bool, true, false, cond, leb, eqb, Option, Some, None}
use Rattle.std.proofs.Math.Option.{none, some}
use Rattle.std.proofs.Math.Option as math
use Rattle.rules.specs.declared.Place.{Place}
use Rattle.rules.specs.declared.Timeslice.{Timeslice}
use Rattle.rules.specs.State.{place_at}
use Rattle.rules.specs.Order.{topmost}
use Rattle.tables.specs.Timeslices.{slice_of, place_of}
use Rattle.tables.specs.Sets.{set_of}
use Rattle.timeslices.specs.declared.search.Members.{Members}
use Rattle.timeslices.specs.declared.search.Members.TheVariants.{None as Nobody, One, Several}
use Rattle.timeslices.specs.declared.search.Found.{Found}

-- the timeslices in a set
abbrev pub takes : Place → List Timeslice → ℕ → Bool
takes set ts t = set_of set (place_at (map place_of ts) t)

-- the topmost of those timeslices of the turn order that are in a set
abbrev pub topmost_in : Place → List Timeslice → List ℕ → math.Option ℕ
topmost_in set ts turns = topmost (map slice_of ts) (takes set ts) turns

-- what a search answers that found this topmost one among so many
abbrev pub members_of : math.Option ℕ → ℕ → Members
members_of none n = Nobody
members_of (some t) n = cond (eqb n 1) (One t) (Several t)

-- the search after one more member: it takes over only if its priority is higher than that of the best so far
unfoldable pub joined : Option Found → ℕ → ℕ → Found
joined None t priority = record { best = t; priority = priority; several = false }
joined (Some f) t priority =
    cond (leb priority f.priority)
    (record { best = f.best; priority = f.priority; several = true })
    (record { best = t; priority = priority; several = true })

-- the answer of a search that has come to its end
abbrev pub ended : Option Found → Members
ended None = Nobody
ended (Some f) = cond f.several (Several f.best) (One f.best)
