-- Document 02, [13]: what `shares` prints, worked out by hand for short lists, as one table that every row meets. Proved by computation.
use Prim.Native.Nat.{ℕ}
use Prim.Native.String.{String}
use mathlib.Core.Path.{◌≡◌, refl}
use mathlib.Core.List.{List, [], ◌∷◌, ◌++◌}
use Rattle.rules.specs.declared.Role.TheVariants.{Client, Server}
use Rattle.rules.specs.declared.Event.{Event}
use Rattle.rules.specs.declared.Event.TheVariants.{Create, Give, Call, Block, Charge, Refill, Remove}
use Rattle.rules.specs.EventFile.{file_of}
use Rattle.rules.specs.Shares.{shares}
use Rattle.rules.proofs.Computing.{computing}
use Rattle.marked.proofs.MarkedSequences.{All, ◌also◌}
use Rattle.marked.proofs.MarkedReasons.{text}

-- a file and the lines that it gets
pub record Row : Type 0 where
  pub file : List ℕ
  pub prints : List String

-- the statement
abbrev pub Meets : Row → Type 0
Meets r = shares r.file ≡ text r.prints

abbrev row : List Event → List String → Row
row es prints = record { file = file_of es; prints = prints }

-- two clients, the one with timeslice 5 above the one with timeslice 3
abbrev two : List Event
two = Create 0 Client ∷ Create 1 Client ∷ Give 5 0 20 100 ∷ Give 3 1 10 100 ∷ []

-- a caller and its server
abbrev donation : List Event
donation = Create 0 Client ∷ Create 1 Server ∷ Give 5 0 10 100 ∷ Call 1 ∷ []

-- both are charged and removed, and a third client is given number 5
abbrev again : List Event
again = Charge 30 ∷ Remove 0 ∷ Charge 20 ∷ Remove 1 ∷ Create 2 Client ∷ Give 5 2 10 40 ∷ Charge 10 ∷ []

unfoldable pub rows : List Row
rows =
    -- one pays all
    row (two ++ (Charge 7 ∷ [])) ("5 7 1000 0" ∷ [])
    -- two of three parts, and one; the number that paid first is not the first line
    ∷ row (two ++ (Charge 2 ∷ Block ∷ Charge 1 ∷ [])) ("3 1 333 1" ∷ "5 2 666 2" ∷ [])
    -- a depleted timeslice paid while it was current; refilled it pays again
    ∷ row (two ++ (Charge 100 ∷ Charge 50 ∷ Refill 5 ∷ Charge 50 ∷ [])) ("3 50 250 0" ∷ "5 150 750 0" ∷ [])
    -- a server is charged to its caller's timeslice
    ∷ row (donation ++ (Charge 9 ∷ [])) ("5 9 1000 0" ∷ [])
    -- a removal, and a second give of the number: 30 and 10 of 60
    ∷ row (two ++ again) ("3 20 333 20" ∷ "5 40 666 40" ∷ [])
    -- refused charges: 11 for 0, 11 for more than is left, 5 while nothing runs
    ∷ row (two ++ (Charge 0 ∷ Charge 60 ∷ Charge 41 ∷ Charge 40 ∷ Charge 7 ∷ Block ∷ Charge 8 ∷ [])) ("3 7 65 45" ∷ "5 100 934 62" ∷ [])
    ∷ row (Charge 1 ∷ Create 0 Client ∷ Charge 1 ∷ []) []
    -- no charge, and no event
    ∷ row two []
    ∷ row [] []
    -- a refused file
    ∷ record { file = []; prints = "file 14" ∷ [] }
    ∷ record { file = 0 ∷ 0 ∷ 0 ∷ 1 ∷ 2 ∷ []; prints = "file 15" ∷ [] }
    ∷ record { file = 0 ∷ 0 ∷ 0 ∷ 2 ∷ 1 ∷ 1 ∷ []; prints = "file 16" ∷ [] }
    ∷ []

pub marked : All Meets rows
unfolding computing rows text
marked =
    refl also refl also refl also refl also refl also refl also refl also refl also refl also refl also refl also refl also tt
