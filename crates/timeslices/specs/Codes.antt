-- The live timeslices in turn order as numbers: a code for the place and a height for the standing of each.
use Rattle.std.specs.Prelude.{ℕ, zero, suc, ◌+◌, ◌*◌, ◌-◌, ◌%◌, ◌≤◌, ◌<◌, ◌≡◌, List, map, cond, length, get_or, ltb, eqb, Some, None}
use Rattle.std.specs.Prelude as std
use Rattle.std.proofs.Math.Option.{Option, none, some}
use Rattle.rules.specs.declared.Place.{Place}
use Rattle.rules.specs.declared.Place.TheVariants.{Behind}
use Rattle.rules.specs.declared.Timeslice.{Timeslice}
use Rattle.rules.specs.State.{place_at, priority_at}
use Rattle.tables.specs.Timeslices.{slice_of, place_of}
use Rattle.tables.specs.Sets.{kind_of, number_of}
use Rattle.tables.specs.Turning.{entries_of}

-- a place as one number, with room for eight kinds, so that different places have different codes
abbrev pub code_of : Place → ℕ
code_of p = kind_of p + 8 * number_of p

-- the higher a timeslice stands, the larger its height: by its priority, and among equals the earlier entry; never 0
abbrev pub height_of : ℕ → ℕ → ℕ
height_of priority i = priority * 128 + (128 - i)

-- the entry of the turn order that has this height
abbrev pub turn_of : ℕ → ℕ
turn_of height = 127 - (height - 1) % 128

-- a height counts if its timeslice is in the set
abbrev pub weight : ℕ → ℕ → ℕ → ℕ
weight code height set = cond (eqb code set) height 0

abbrev pub higher : ℕ → ℕ → ℕ
higher best height = cond (ltb best height) height best

-- the highest height in the set, among n entries from entry i on; 0 where there is none
unfoldable pub highest : ℕ → List ℕ → List ℕ → ℕ → ℕ → ℕ
highest set codes heights i zero = 0
highest set codes heights i (suc n) = higher (highest set codes heights (suc i) n) (weight (get_or codes i 0) (get_or heights i 0) set)

-- the timeslice that has this height
abbrev pub top_of : List ℕ → ℕ → Option ℕ
top_of order zero = none
top_of order (suc height) = some (get_or order (turn_of (suc height)) 0)

-- the topmost timeslice of a set, searched through codes and heights
abbrev pub top_in : ℕ → List ℕ → ℕ → List ℕ → List ℕ → Option ℕ
top_in set order live codes heights = top_of order (highest set codes heights 0 (entries_of live))

-- the code of timeslice t after timeslice `parked` is put at a place
abbrev pub parked_code : ℕ → ℕ → ℕ → ℕ → ℕ
parked_code parked to t code = cond (eqb t parked) to code

-- and after the release of a set
abbrev pub released_code : ℕ → ℕ → ℕ → ℕ → ℕ → ℕ
released_code set first behind t code = cond (eqb code set) (cond (eqb t first) 0 behind) code

-- every live entry has this value, the others are as they were
pub record Entered (value : ℕ → ℕ) (live : ℕ) (before after : List ℕ) : Type 0 where
  pub size : length after ≡ length before
  pub each : (i : ℕ) → i < entries_of live → i < length before → get_or after i 0 ≡ value i
  pub rest : (i : ℕ) → entries_of live ≤ i → get_or after i 0 ≡ get_or before i 0

-- the code and the height of the timeslice at entry i
abbrev pub code_at : List Timeslice → List ℕ → ℕ → ℕ
code_at ts order i = code_of (place_at (map place_of ts) (get_or order i 0))

abbrev pub height_at : List Timeslice → List ℕ → ℕ → ℕ
height_at ts order i = height_of (priority_at (map slice_of ts) (get_or order i 0)) i

-- every live entry's code has been changed so, by the timeslice at that entry
abbrev pub Recoded : (ℕ → ℕ → ℕ) → List ℕ → ℕ → List ℕ → List ℕ → Type 0
Recoded change order live before after = Entered (λ i. change (get_or order i 0) (get_or before i 0)) live before after

-- the codes after the release of a set whose topmost timeslice is this one
abbrev pub ReleasedCodes : Place → List ℕ → ℕ → List ℕ → List ℕ → std.Option ℕ → Type 0
ReleasedCodes set order live before after None = after ≡ before
ReleasedCodes set order live before after (Some q) = Recoded (released_code (code_of set) q (code_of (Behind q))) order live before after

-- codes and heights are those of the timeslices
pub record Coded (ts : List Timeslice) (order : List ℕ) (live : ℕ) (codes heights : List ℕ) : Type 0 where
  pub full : length codes ≡ 128
  pub code : (i : ℕ) → i < entries_of live → get_or codes i 0 ≡ code_at ts order i
  pub height : (i : ℕ) → i < entries_of live → get_or heights i 0 ≡ height_at ts order i
