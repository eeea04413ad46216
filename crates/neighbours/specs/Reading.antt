-- Document 02, [8]: "the list read from the neighbours".
use Rattle.std.specs.Prelude.{ℕ, zero, suc, ◌-◌, List, [], ◌∷◌, ◌++◌, Bool, not, replicate, eqb}
use Rattle.rules.specs.State.{limit}
use Rattle.tables.specs.Turning.{entries_of}
use Rattle.neighbours.specs.Sides.{sentinel, unlisted, neighbour}

-- so many timeslices, each after the one before it, from an entry on
unfoldable pub turns_from : ℕ → List ℕ → ℕ → List ℕ
turns_from zero after t = []
turns_from (suc n) after t = neighbour after t ∷ turns_from n after (neighbour after t)

-- the turn order, where so many timeslices are said to be live: at most 128 steps, whatever stands there
abbrev pub turns_read : List ℕ → ℕ → List ℕ
turns_read after live = turns_from (entries_of live) after sentinel

-- the same in an array of 128 entries, and then 0
abbrev pub laid_out : List ℕ → ℕ → List ℕ
laid_out after live = turns_read after live ++ replicate (limit - entries_of live) 0

-- a timeslice has a neighbour
abbrev pub is_listed : List ℕ → ℕ → Bool
is_listed after t = not (eqb (neighbour after t) unlisted)
