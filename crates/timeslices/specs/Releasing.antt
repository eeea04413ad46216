-- The release over the stored timeslices: what becomes of their places.
use Rattle.std.specs.Prelude.{ℕ, ◌≡◌, List, map, Bool, set}
use Rattle.std.proofs.Math.Option.{Option, none, some}
use Rattle.rules.specs.declared.Place.{Place}
use Rattle.rules.specs.declared.Place.TheVariants.{Queue, Behind, On, Stalled, Spent}
use Rattle.rules.specs.declared.Timeslice.{Timeslice}
use Rattle.rules.specs.declared.Slice.{Slice}
use Rattle.rules.specs.State.{place_at}
use Rattle.rules.specs.Order.{topmost}
use Rattle.rules.specs.Release.{behind, released_places}
use Rattle.tables.specs.Timeslices.{slice_of, place_of}

-- the places of the turn order's timeslices after a release
abbrev pub released_from : (Place → Bool) → List ℕ → List Place → Option ℕ → List Place
released_from at order ps none = ps
released_from at order ps (some q) = released_places at q order ps

abbrev pub places_after : (Place → Bool) → List Slice → List ℕ → List Place → List Place
places_after at ss order ps = released_from at order ps (topmost ss (λ t. at (place_at ps t)) order)

-- the places where timeslice t, which stands at this one, is detached
abbrev pub detached_places : ℕ → List Slice → List ℕ → List Place → Place → List Place
detached_places t ss order ps Queue = places_after (behind t) ss order ps
detached_places t ss order ps (Behind q) = set ps t Queue
detached_places t ss order ps (On n) = ps
detached_places t ss order ps Stalled = ps
detached_places t ss order ps Spent = ps

-- the same timeslices at these places
pub record Replaced (before : List Timeslice) (to : List Place) (after : List Timeslice) : Type 0 where
  pub slices : map slice_of after ≡ map slice_of before
  pub places : map place_of after ≡ to
