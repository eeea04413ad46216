-- The turn order stored in an array of which the first entries are live.
use Rattle.std.specs.Prelude.{ℕ, suc, min, ◌≤◌, ◌<◌, ◌≡◌, List, [], ◌∷◌, ◌++◌, true, false, cond, length, get_or, take, drop}
use Rattle.rules.specs.Tests.{member}
use Rattle.rules.specs.State.{limit}
use Rattle.rules.specs.Timeslices.{last, without}

-- the live entries, where so many are said to be live: never more than the array has
abbrev pub entries_of : ℕ → ℕ
entries_of live = min live limit

-- entry i is the first that holds t, or t is not listed
pub data Position (t live : ℕ) (order : List ℕ) (i : ℕ) : Type 0 where
  listed : member t (take live order) ≡ true → i < entries_of live
      → without t (take live order) ≡ take i order ++ drop (suc i) (take live order)
      → Position t live order i
  absent : member t (take live order) ≡ false → entries_of live ≤ i → Position t live order i

-- entry i is left out, the later ones move up, and z is the last
pub record Shifted (z live : ℕ) (order : List ℕ) (i : ℕ) (after : List ℕ) : Type 0 where
  pub size : length after ≡ length order
  pub turns : take live after ≡ take i order ++ drop (suc i) (take live order) ++ (z ∷ [])
  pub free : (k : ℕ) → entries_of live ≤ k → get_or after k 0 ≡ get_or order k 0

-- without a listed timeslice, and z last; one that is not listed stays away
abbrev pub out_if_listed : ℕ → ℕ → List ℕ → List ℕ
out_if_listed t z order = cond (member t order) (last z (without t order)) order

-- the live entries after that, and the free ones as they were
pub record TakenOut (t z live : ℕ) (order after : List ℕ) : Type 0 where
  pub size : length after ≡ length order
  pub turns : take live after ≡ out_if_listed t z (take live order)
  pub free : (k : ℕ) → entries_of live ≤ k → get_or after k 0 ≡ get_or order k 0

-- to the back of the turn order
abbrev pub Turned : ℕ → ℕ → List ℕ → List ℕ → Type 0
Turned t live order after = TakenOut t t live order after

-- out of the turn order: the last of the entries that were live is free now, and holds 0
abbrev pub StruckOut : ℕ → ℕ → List ℕ → List ℕ → Type 0
StruckOut t live order after = TakenOut t 0 live order after
