-- Units by timeslice number, as the code counts them.
use Rattle.std.specs.Prelude.{ℕ, suc, ◌+◌, ◌≤◌, ◌<◌, ◌≡◌, List, [], ◌∷◌, ◌++◌, true, cond, ltb, length, get_or}
use Rattle.rules.specs.State.{limit}
use Rattle.rules.specs.Shares.{Payment, units_of, total, has_paid, share, share_line}
use Rattle.shares_sheet.specs.declared.tally.Tally.{Tally}

-- each that pays has a place, and what it pays has room there
abbrev pub Room : List ℕ → List Payment → Type 0
Room units ps = (t : ℕ) → has_paid ps t ≡ true → (t < length units) × (get_or units t 0 + units_of t ps < 18446744073709551616)

-- these payments are added, and r is their total
pub record Added (before after : List ℕ) (ps : List Payment) (r : ℕ) : Type 0 where
  pub size : length after ≡ length before
  pub each : (t : ℕ) → get_or after t 0 ≡ get_or before t 0 + units_of t ps
  pub sum : r ≡ total ps

-- these are all payments
pub record Tallied (ps : List Payment) (r : Tally) : Type 0 where
  pub size : length r.units ≡ limit
  pub each : (t : ℕ) → get_or r.units t 0 ≡ units_of t ps
  pub sum : r.total ≡ total ps

-- no units are above the total, and a thousand times the total fits in eight bytes
pub record Within (r : Tally) : Type 0 where
  pub size : length r.units ≡ limit
  pub each : (t : ℕ) → get_or r.units t 0 ≤ r.total
  pub bound : r.total < 2147483648

-- the lines of those that have paid, from number t on
unfoldable pub tally_lines : ℕ → ℕ → List ℕ → List ℕ
tally_lines all t [] = []
tally_lines all t (u ∷ us) = cond (ltb 0 u) (share_line (share all t u)) [] ++ tally_lines all (suc t) us
