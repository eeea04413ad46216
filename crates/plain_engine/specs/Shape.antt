-- The test for a machine without its places (`shaped`, in rules) as the engine asks it: the clauses of one number, and of one timeslice of
-- the turn order.
use Rattle.std.specs.Prelude.{ℕ, List, map, Bool, ◌&&◌, ◌||◌, ltb}
use Rattle.rules.specs.declared.Thread.{Thread}
use Rattle.rules.specs.declared.Slice.{Slice}
use Rattle.rules.specs.Tests.{member}
use Rattle.rules.specs.State.{limit, live_at, slice_at, owner_at}
use Rattle.rules.specs.Sound.{in_range, slice_free}
use Rattle.soundness.specs.Parts.{thread_test}

-- the clauses about number n: its thread, and its timeslice's slot, free unless listed
abbrev pub slot_test : List Thread → List Slice → List ℕ → ℕ → Bool
slot_test threads slices order n = thread_test threads n && (member n order || slice_free (slice_at slices n))

-- the clauses about timeslice t of the turn order: its number, its owner and its ranges
abbrev pub turn_test : List Thread → List Slice → ℕ → Bool
turn_test threads slices t = ltb t limit && live_at threads (owner_at slices t) && in_range (slice_at slices t)

-- the owners of these timeslices
abbrev pub owners_in : List Slice → List ℕ → List ℕ
owners_in slices listed = map (λ t. owner_at slices t) listed
