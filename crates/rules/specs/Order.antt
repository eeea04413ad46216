-- Document 01, "What belongs to the machine": "Of two timeslices the higher priority stands above; among equals, the earlier in turn
-- order."
use Rattle.std.specs.Prelude.{ℕ, List, [], ◌∷◌, Bool, true, false, cond, ◌&&◌, ◌||◌, ltb, eqb}
use Rattle.std.proofs.Math.Option.{Option, none, some}
use Rattle.rules.specs.declared.Slice.{Slice}
use Rattle.rules.specs.State.{priority_at}

-- a comes before b in the list
unfoldable pub earlier : List ℕ → ℕ → ℕ → Bool
earlier [] a b = false
earlier (t ∷ ts) a b = cond (eqb t b) false (cond (eqb t a) true (earlier ts a b))

unfoldable pub stands_above : List Slice → List ℕ → ℕ → ℕ → Bool
stands_above ss order a b = ltb (priority_at ss b) (priority_at ss a) || eqb (priority_at ss a) (priority_at ss b) && earlier order a b

-- of a timeslice and the topmost of those later in turn order, the one that stands above: the later one only if its priority is higher
abbrev pub upper : List Slice → ℕ → Option ℕ → Option ℕ
upper ss t none = some t
upper ss t (some u) = cond (ltb (priority_at ss t) (priority_at ss u)) (some u) (some t)

-- the topmost of those timeslices of the turn order that the test takes
unfoldable pub topmost : List Slice → (ℕ → Bool) → List ℕ → Option ℕ
topmost ss takes [] = none
topmost ss takes (t ∷ ts) = cond (takes t) (upper ss t (topmost ss takes ts)) (topmost ss takes ts)
