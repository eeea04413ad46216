-- Document 02, [10]: lookups in ranking tables, worked out by hand, as one table that every row meets. Proved by computation; a table that
-- has no overlap, for which all intervals are looked at, is judged once for all of its lookups.
use Prim.Native.Nat.{ℕ, zero, suc}
use mathlib.Core.Path.{◌≡◌, refl, ap, ◌∙◌}
use mathlib.Core.List.{List, [], ◌∷◌, map}
use Rattle.ranking_table.specs.declared.Row.{Row}
use Rattle.ranking_table.specs.Ranking.{Answer, holding, smallest_from, any_bad, refused, accepted, fault, priority_in, answer_by, lookup}
use Rattle.marked.proofs.MarkedSequences.{All, ◌also◌}

-- a table, intervals looked up in it, and the answers
pub record Lookups : Type 0 where
  pub table : List Row
  pub asked : List ℕ
  pub answers : List Answer

-- the statement
abbrev pub Meets : Lookups → Type 0
Meets l = map (lookup l.table) l.asked ≡ l.answers

abbrev row : ℕ → ℕ → ℕ → Row
row first last priority = record { first = first; last = last; priority = priority }

-- two rows that touch, in falling order: both ends of both, and what is outside
abbrev touching : Lookups
touching = record {
  table = row 1001 60000 0 ∷ row 1 1000 255 ∷ [];
  asked = 1 ∷ 1000 ∷ 1001 ∷ 60000 ∷ 0 ∷ 60001 ∷ 65535 ∷ [];
  answers = accepted 255 ∷ accepted 255 ∷ accepted 0 ∷ accepted 0 ∷ refused 23 0 ∷ refused 23 0 ∷ refused 23 0 ∷ [];
}

-- what every lookup answers in a bad table
abbrev always : List Row → Answer → Lookups
always table answer = record { table = table; asked = 1 ∷ 60001 ∷ []; answers = answer ∷ answer ∷ [] }

abbrev many : ℕ → List Row
many zero = []
many (suc n) = row 1 60000 9 ∷ many n

abbrev gapped : Lookups
gapped = always (row 12 60000 1 ∷ row 1 10 2 ∷ []) (refused 25 11)

abbrev no_row : Lookups
no_row = always [] (refused 25 1)

unfoldable pub rows : List Lookups
rows =
    touching
    -- overlapping by one; nested; twice the same row
    ∷ always (row 1000 60000 1 ∷ row 1 1000 2 ∷ []) (refused 24 1000)
    ∷ always (row 1 60000 1 ∷ row 50 60 2 ∷ []) (refused 24 50)
    ∷ always (row 1 60000 1 ∷ row 1 60000 1 ∷ []) (refused 24 1)
    -- the first pair in the order of the rows is not the smallest interval
    ∷ always (row 300 400 1 ∷ row 350 60000 2 ∷ row 1 200 3 ∷ row 100 299 4 ∷ []) (refused 24 100)
    -- an overlap comes before a gap, though the gap is below it
    ∷ always (row 10 20 1 ∷ row 20 60000 2 ∷ []) (refused 24 20)
    -- gaps
    ∷ gapped
    ∷ no_row
    -- a row outside the range, or with first above last: before any overlap
    ∷ always (row 1 60000 1 ∷ row 0 9 2 ∷ []) (refused 23 0)
    ∷ always (row 1 60001 1 ∷ []) (refused 23 0)
    ∷ always (row 1 60000 1 ∷ row 5 4 2 ∷ []) (refused 23 0)
    -- too many rows
    ∷ always (many 64) (refused 24 1)
    ∷ always (many 65) (refused 23 0)
    ∷ []

judged_once : (l : Lookups) (judged : Answer) → fault l.table ≡ judged
    → map (answer_by judged l.table) l.asked ≡ l.answers → Meets l
unfolding lookup
judged_once l judged e h = ap (λ (a : Answer). map (answer_by a l.table) l.asked) e ∙ h

pub marked : All Meets rows
unfolding rows holding smallest_from any_bad fault priority_in lookup
marked =
    judged_once touching (accepted 0) refl refl also refl also refl also refl also refl also refl
    also judged_once gapped (refused 25 11) refl refl also judged_once no_row (refused 25 1) refl refl also refl also refl also refl
    also refl also refl also tt
