-- Document 02, [8]: "Neighbours that form no such list make the machine unsound."
use Rattle.std.specs.Prelude.{ℕ, zero, suc, ◌<◌, ◌≡◌, List, [], ◌∷◌, Bool, true, false, ◌&&◌, ◌||◌, length, leb, ltb, eqb}
use Rattle.rules.specs.Tests.{member, below, all}
use Rattle.rules.specs.State.{limit}
use Rattle.neighbours.specs.Sides.{Sides, sentinel, room, unlisted, neighbour}
use Rattle.neighbours.specs.Reading.{turns_read}

-- after so many timeslices, from an entry on, comes the list's own entry, and before each stands the one that led to it
unfoldable pub leads_back : ℕ → Sides → ℕ → Bool
leads_back zero s t = eqb (neighbour s.after t) sentinel && eqb (neighbour s.before sentinel) t
leads_back (suc n) s t =
    let u = neighbour s.after t in
    ltb u limit && eqb (neighbour s.before u) t && leads_back n s u

-- a timeslice that this turn order does not list has free entries
abbrev pub entries_free : Sides → List ℕ → ℕ → Bool
entries_free s order t =
    member t order || (eqb (neighbour s.before t) unlisted && eqb (neighbour s.after t) unlisted)

-- the neighbours form a list of so many timeslices
abbrev pub forms_list : Sides → ℕ → Bool
forms_list s live =
    eqb (length s.before) room
    && eqb (length s.after) room
    && leb live limit
    && leads_back live s sentinel
    && below limit (λ t. entries_free s (turns_read s.after live) t)

-- the same, said of the list: from a, each after the one before it and before the one after it, to b
abbrev pub Leads : Sides → ℕ → List ℕ → ℕ → Type 0
Leads s a [] b = (neighbour s.after a ≡ b) × (neighbour s.before b ≡ a)
Leads s a (t ∷ l) b = (neighbour s.after a ≡ t) × (neighbour s.before t ≡ a) × Leads s t l b

-- these neighbours are those of this turn order
pub record Linked (s : Sides) (order : List ℕ) : Type 0 where
  pub befores : length s.before ≡ room
  pub afters : length s.after ≡ room
  pub path : Leads s sentinel order sentinel
  pub low : all (λ t. ltb t limit) order ≡ true
  pub free : (t : ℕ) → t < limit → member t order ≡ false → (neighbour s.before t ≡ unlisted) × (neighbour s.after t ≡ unlisted)

-- where the neighbours are those of a turn order that meets the test, they are afterwards those of the turn order changed so
abbrev pub Changes : (List ℕ → Bool) → (List ℕ → List ℕ) → Sides → Sides → Type 0
Changes when change s s' = (order : List ℕ) → Linked s order → when order ≡ true → Linked s' (change order)
