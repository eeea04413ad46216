-- Document 02, [11]: what `shorten` writes, worked out by hand for short lists, as one table that every row meets. Proved by computation.
use Prim.Native.Nat.{ℕ}
use mathlib.Core.Path.{◌≡◌, refl}
use mathlib.Core.List.{List, [], ◌∷◌, ◌++◌}
use Rattle.rules.specs.declared.Role.TheVariants.{Client}
use Rattle.rules.specs.declared.Event.{Event}
use Rattle.rules.specs.declared.Event.TheVariants.{Create, Give, Reply, Block, Wake, Charge}
use Rattle.rules.specs.EventFile.{file_of}
use Rattle.rules.specs.Key.{file_line}
use Rattle.rules.specs.Shorten.{shorter}
use Rattle.rules.proofs.Computing.{computing}
use Rattle.marked.proofs.MarkedSequences.{All, ◌also◌}

-- an input and what is written
pub record Row : Type 0 where
  pub input : List ℕ
  pub writes : List ℕ

-- the statement
abbrev pub Meets : Row → Type 0
Meets r = shorter r.input ≡ r.writes

-- a number, a list, and what is left of it
abbrev row : ℕ → List Event → List Event → Row
row k es left = record { input = k ∷ file_of es; writes = file_of left }

-- a client runs
abbrev runs : List Event
runs = Create 0 Client ∷ Give 5 0 10 20 ∷ []

unfoldable pub rows : List Row
rows =
    -- nothing can be left out
    row 11 (runs ++ (Charge 21 ∷ [])) (runs ++ (Charge 21 ∷ []))
    -- the last is tried first: charge 5 goes, and then neither of the others can
    ∷ row 11 (runs ++ (Charge 2 ∷ Charge 3 ∷ Charge 5 ∷ Charge 16 ∷ [])) (runs ++ (Charge 2 ∷ Charge 3 ∷ Charge 16 ∷ []))
    -- a second pass: the wake is needed until the block has gone
    ∷ row 8 (runs ++ (Block ∷ Wake 0 ∷ Reply ∷ [])) (runs ++ (Reply ∷ []))
    -- of two that are refused the first stays, and what comes after it goes
    ∷ row 8 (runs ++ (Reply ∷ Charge 1 ∷ Reply ∷ [])) (runs ++ (Reply ∷ []))
    -- a refusal with another number does not count
    ∷ row 2 (Reply ∷ Create 128 Client ∷ Block ∷ []) (Create 128 Client ∷ [])
    -- 26: a number with which no event is refused, 0 and 1
    ∷ record { input = 9 ∷ file_of (Reply ∷ []); writes = file_line 26 }
    ∷ record { input = 0 ∷ file_of (Reply ∷ runs); writes = file_line 26 }
    ∷ record { input = 1 ∷ file_of (Reply ∷ runs); writes = file_line 26 }
    ∷ record { input = 5 ∷ file_of []; writes = file_line 26 }
    -- no input, no file, a refused file
    ∷ record { input = []; writes = file_line 14 }
    ∷ record { input = 5 ∷ []; writes = file_line 14 }
    ∷ record { input = 5 ∷ 0 ∷ 0 ∷ 0 ∷ 1 ∷ 2 ∷ []; writes = file_line 15 }
    ∷ record { input = 5 ∷ 0 ∷ 0 ∷ 0 ∷ 2 ∷ 1 ∷ 1 ∷ []; writes = file_line 16 }
    ∷ []

pub marked : All Meets rows
unfolding computing rows
marked =
    refl also refl also refl also refl also refl also refl also refl also refl also refl also refl also refl also refl also refl also tt
