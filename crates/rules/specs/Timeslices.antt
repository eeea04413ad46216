-- Document 01, "Events", and document 02, [2] to [4]: what they do to the timeslices and the turn order, in either machine.
use Rattle.std.specs.Prelude.{ℕ, ◌-◌, List, [], ◌∷◌, ◌++◌, cond, set, eqb}
use Rattle.std.proofs.Math.Option.{Option, none, some}
use Rattle.rules.specs.declared.Slice.{Slice}
use Rattle.rules.specs.State.{free_slice, slice_at, owner_at, left_at}

-- a thread's own timeslice: "A thread owns at most one."
unfoldable pub own_of : List Slice → ℕ → List ℕ → Option ℕ
own_of ss n [] = none
own_of ss n (t ∷ ts) = cond (eqb (owner_at ss t) n) (some t) (own_of ss n ts)

abbrev pub with_left : ℕ → Slice → Slice
with_left n x = record { owner = x.owner; priority = x.priority; quantum = x.quantum; left = n }

unfoldable pub set_left : ℕ → ℕ → List Slice → List Slice
set_left t n ss = set ss t (with_left n (slice_at ss t))

-- Give: "left = quantum"
unfoldable pub given : ℕ → ℕ → ℕ → ℕ → List Slice → List Slice
given t owner priority quantum ss = set ss t (record { owner = owner; priority = priority; quantum = quantum; left = quantum })

-- Give: "last in turn order"
unfoldable pub last : ℕ → List ℕ → List ℕ
last t order = order ++ (t ∷ [])

-- out of the turn order
unfoldable pub without : ℕ → List ℕ → List ℕ
without t [] = []
without t (u ∷ us) = cond (eqb u t) us (u ∷ without t us)

-- Charge: "moves the timeslice to the back of the turn order"; Rank: it "goes to the back of the turn order"
unfoldable pub to_back : ℕ → List ℕ → List ℕ
to_back t order = last t (without t order)

-- Charge: "the current timeslice's left falls by the charge"
unfoldable pub charged : ℕ → ℕ → List Slice → List Slice
charged t units ss = set_left t (left_at ss t - units) ss

-- Refill: "sets left to the quantum"
unfoldable pub refilled : ℕ → List Slice → List Slice
refilled t ss = set_left t (slice_at ss t).quantum ss

-- Remove: "Its own timeslice is struck out": `without` it in the turn order, and its slot is free
unfoldable pub struck : ℕ → List Slice → List Slice
struck t ss = set ss t free_slice

abbrev pub with_priority : ℕ → Slice → Slice
with_priority priority x = record { owner = x.owner; priority = priority; quantum = x.quantum; left = x.left }

-- Rank: "The timeslice takes that priority"
unfoldable pub ranked : ℕ → ℕ → List Slice → List Slice
ranked t priority ss = set ss t (with_priority priority (slice_at ss t))
