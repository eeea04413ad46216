-- Document 01, "Release and choice": the release.
use Rattle.std.specs.Prelude.{ℕ, List, [], ◌∷◌, Bool, true, false, cond, set, eqb}
use Rattle.std.proofs.Math.Option.{Option, none, some}
use Rattle.rules.specs.declared.Place.{Place}
use Rattle.rules.specs.declared.Place.TheVariants.{Queue, Behind, On, Stalled, Spent}
use Rattle.rules.specs.State.{State, place_at, with_places}
use Rattle.rules.specs.Order.{topmost}

-- the sets that are released or chosen from; no Spent timeslice is in one of them: document 02, [2], "no release touches it"
abbrev pub in_queue : Place → Bool
in_queue Queue = true
in_queue (Behind q) = false
in_queue (On n) = false
in_queue Stalled = false
in_queue Spent = false

-- the followers of timeslice t
abbrev pub behind : ℕ → Place → Bool
behind t Queue = false
behind t (Behind q) = eqb q t
behind t (On n) = false
behind t Stalled = false
behind t Spent = false

-- those On thread n
abbrev pub on_thread : ℕ → Place → Bool
on_thread n Queue = false
on_thread n (Behind q) = false
on_thread n (On m) = eqb m n
on_thread n Stalled = false
on_thread n Spent = false

abbrev pub stalled : Place → Bool
stalled Queue = false
stalled (Behind q) = false
stalled (On n) = false
stalled Stalled = true
stalled Spent = false

-- the Spent ones
abbrev pub is_spent : Place → Bool
is_spent Queue = false
is_spent (Behind q) = false
is_spent (On n) = false
is_spent Stalled = false
is_spent Spent = true

-- the topmost of the timeslices at such a place
abbrev pub topmost_at : (Place → Bool) → State → Option ℕ
topmost_at at s = topmost s.slices (λ t. at (place_at s.places t)) s.order

-- "the topmost one goes to Queue, the rest go Behind that one"
abbrev pub released_place : (Place → Bool) → ℕ → ℕ → Place → Place
released_place at q t p = cond (at p) (cond (eqb t q) Queue (Behind q)) p

unfoldable pub released_places : (Place → Bool) → ℕ → List ℕ → List Place → List Place
released_places at q [] ps = ps
released_places at q (t ∷ ts) ps = released_places at q ts (set ps t (released_place at q t (place_at ps t)))

-- "An empty set changes nothing."
abbrev pub release_to : (Place → Bool) → State → Option ℕ → State
release_to at s none = s
release_to at s (some q) = with_places (released_places at q s.order s.places) s

unfoldable pub release : (Place → Bool) → State → State
release at s = release_to at s (topmost_at at s)
