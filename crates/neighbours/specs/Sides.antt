-- Document 02, [8]: "Store for each timeslice the one before and the one after, with a first and a last."
use Rattle.std.specs.Prelude.{ℕ, List, cond, get_or, set, ltb}
use Rattle.rules.specs.State.{limit}

-- the one before and the one after each timeslice; beside them there is an entry of the list's own
pub record Sides : Type 0 where
  pub before : List ℕ
  pub after : List ℕ

abbrev pub sides : List ℕ → List ℕ → Sides
sides before after = record { before = before; after = after }

-- "with a first and a last": after the list's own entry comes the first, before it the last
abbrev pub sentinel : ℕ
sentinel = limit

abbrev pub room : ℕ
room = 129

-- "Free slots hold one fixed value": what stands in the entries of a timeslice that is not listed
abbrev pub unlisted : ℕ
unlisted = 255

-- the neighbour of an entry on one side; past the list's own entry there is none
unfoldable pub neighbour : List ℕ → ℕ → ℕ
neighbour side t = cond (ltb t room) (get_or side t 0) unlisted

-- a side with another neighbour in one entry
unfoldable pub put : List ℕ → ℕ → ℕ → List ℕ
put side t u = cond (ltb t room) (set side t u) side
