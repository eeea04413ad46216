-- The test by example, computed: the neighbours of a turn order of three timeslices, and the same damaged in every way that there is.
use Prim.Native.Nat.{ℕ}
use mathlib.Core.Path.{◌≡◌, refl}
use mathlib.Core.List.{List, [], ◌∷◌, ◌++◌, map}
use mathlib.Core.Bool.{Bool, true, false}
use lib.ListN.{set, replicate}
use Rattle.rules.specs.Tests.{member, below}
use Rattle.neighbours.specs.Sides.{sides, sentinel, unlisted, neighbour}
use Rattle.neighbours.specs.Reading.{turns_from, turns_read}
use Rattle.neighbours.specs.Forming.{leads_back, forms_list}

-- a side on which nothing is listed
abbrev bare : List ℕ
bare = replicate 128 unlisted ++ (sentinel ∷ [])

-- the turn order 5, 0, 2
abbrev befores : List ℕ
befores = set (set (set (set bare 5 sentinel) 0 5) 2 0) sentinel 2

abbrev afters : List ℕ
afters = set (set (set (set bare sentinel 5) 5 0) 0 2) 2 sentinel

record Row : Type 0 where
  before : List ℕ
  after : List ℕ
  live : ℕ
  forms : Bool

abbrev judged : Row → Bool
judged r = forms_list (sides r.before r.after) r.live

abbrev rows : List Row
rows =
    -- as it should be, and with nothing listed
    record { before = befores; after = afters; live = 3; forms = true }
    ∷ record { before = bare; after = bare; live = 0; forms = true }
    -- a circle: after the last comes the first again, or a timeslice itself
    ∷ record { before = befores; after = set afters 2 5; live = 3; forms = false }
    ∷ record { before = befores; after = set afters 0 0; live = 3; forms = false }
    -- a wrong first, a wrong last
    ∷ record { before = befores; after = set afters sentinel 0; live = 3; forms = false }
    ∷ record { before = set befores sentinel 0; after = afters; live = 3; forms = false }
    -- a `before` that is not the other way round of `after`
    ∷ record { before = set befores 0 2; after = afters; live = 3; forms = false }
    -- too few, too many, and more than there can be
    ∷ record { before = befores; after = afters; live = 2; forms = false }
    ∷ record { before = befores; after = afters; live = 4; forms = false }
    ∷ record { before = befores; after = afters; live = 129; forms = false }
    -- a number that is no timeslice's
    ∷ record { before = befores; after = set afters 5 200; live = 3; forms = false }
    -- a free entry that is not the fixed value, on either side
    ∷ record { before = set befores 7 0; after = afters; live = 3; forms = false }
    ∷ record { before = befores; after = set afters 7 0; live = 3; forms = false }
    ∷ []

pub rows_judged : map judged rows ≡ map (λ r. r.forms) rows
unfolding neighbour turns_from leads_back member below
rows_judged = refl

-- the list is read as it stands; a circle is read too, for as long as it is said to be
pub rows_read : (turns_read afters 3 ≡ 5 ∷ 0 ∷ 2 ∷ []) × (turns_read (set afters 2 5) 5 ≡ 5 ∷ 0 ∷ 2 ∷ 5 ∷ 0 ∷ [])
unfolding neighbour turns_from
rows_read = (refl, refl)
