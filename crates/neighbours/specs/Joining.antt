-- The changes of the turn order, on its neighbours: each touches a few entries and moves none.
use Rattle.std.specs.Prelude.{ℕ}
use Rattle.neighbours.specs.Sides.{Sides, sentinel, unlisted, neighbour, put}

-- b comes after a, and a before b
abbrev pub joined : ℕ → ℕ → Sides → Sides
joined a b s = record { before = put s.before b a; after = put s.after a b }

-- Give: "last in turn order"
unfoldable pub appended : ℕ → Sides → Sides
appended t s = joined t sentinel (joined (neighbour s.before sentinel) t s)

-- the neighbours of a timeslice are joined, and it is passed over
unfoldable pub passed_over : ℕ → Sides → Sides
passed_over t s = joined (neighbour s.before t) (neighbour s.after t) s

-- its own entries are free
abbrev pub cleared : ℕ → Sides → Sides
cleared t s = record { before = put s.before t unlisted; after = put s.after t unlisted }

-- Remove: "Its own timeslice is struck out"
unfoldable pub struck_out : ℕ → Sides → Sides
struck_out t s = cleared t (passed_over t s)

-- Charge and Rank: to "the back of the turn order"
unfoldable pub moved_back : ℕ → Sides → Sides
moved_back t s = appended t (passed_over t s)
