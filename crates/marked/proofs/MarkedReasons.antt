-- Document 02, [5]: what `reason` prints, worked out by hand for short lists, as one table that every row meets. Proved by computation.
use Prim.Native.Nat.{ℕ}
use Prim.Native.String.{String}
use mathlib.Core.Path.{◌≡◌, refl}
use mathlib.Core.List.{List, [], ◌∷◌, ◌++◌}
use Rattle.rules.specs.declared.Role.TheVariants.{Client, Server}
use Rattle.rules.specs.declared.Event.{Event}
use Rattle.rules.specs.declared.Event.TheVariants.{Create, Give, Call, Block, Charge}
use Rattle.rules.specs.EventFile.{four_bytes, file_of}
use Rattle.rules.specs.Key.{bytes}
use Rattle.rules.specs.Reason.{reason}
use Rattle.rules.proofs.Computing.{computing}
use Rattle.marked.proofs.MarkedSequences.{All, ◌also◌}

-- an input and the lines that it gets
pub record Row : Type 0 where
  pub input : List ℕ
  pub prints : List String

unfoldable pub text : List String → List ℕ
text [] = []
text (l ∷ ls) = bytes l ++ bytes "\n" ++ text ls

-- the statement
abbrev pub Meets : Row → Type 0
Meets r = reason r.input ≡ text r.prints

abbrev row : ℕ → List Event → List String → Row
row number es prints = record { input = four_bytes number ++ file_of es; prints = prints }

-- a caller and its server: the caller's timeslice pays for the server
abbrev donation : List Event
donation = Create 0 Client ∷ Create 1 Server ∷ Give 5 0 10 100 ∷ Call 1 ∷ []

-- 1 has the higher timeslice, and helps the server that 0 calls; then the server blocks
abbrev helping : List Event
helping =
    Create 0 Client ∷ Create 1 Client ∷ Create 2 Server ∷ Give 0 0 10 100 ∷ Call 2 ∷ Give 1 1 20 100 ∷ Call 2 ∷ Block ∷ []

-- 1 calls 2, which helps 1
abbrev looping : List Event
looping = Create 0 Client ∷ Create 1 Server ∷ Create 2 Server ∷ Give 0 0 10 100 ∷ Call 1 ∷ Call 2 ∷ Call 1 ∷ []

-- timeslice 0, above timeslice 1, is charged all it has
abbrev depleting : List Event
depleting = Create 0 Client ∷ Create 1 Client ∷ Give 0 0 20 5 ∷ Give 1 1 10 100 ∷ Charge 5 ∷ []

-- three that block one after the other: the highest, then its two equals below in turn order
abbrev blocking : List Event
blocking =
    Create 0 Client ∷ Create 1 Client ∷ Create 2 Client ∷ Give 0 0 10 100 ∷ Give 1 1 20 100 ∷ Give 2 2 10 100 ∷ Block ∷ Block ∷ Block ∷ []

-- a server that nobody calls has a timeslice of its own
abbrev idle : List Event
idle = Create 1 Server ∷ Give 0 1 10 100 ∷ []

-- the second create is refused
abbrev refused : List Event
refused = Create 0 Client ∷ Create 0 Client ∷ Give 0 0 10 100 ∷ []

unfoldable pub rows : List Row
rows =
    row 4 donation ("0 1" ∷ [])
    ∷ row 7 helping ("1 2" ∷ [])
    ∷ row 8 helping ("-" ∷ "1 thread 2" ∷ "0 thread 2" ∷ [])
    ∷ row 7 looping ("-" ∷ "0 loop" ∷ [])
    ∷ row 5 depleting ("1" ∷ "0 spent" ∷ [])
    ∷ row 7 blocking ("0" ∷ "1 thread 1" ∷ [])
    ∷ row 9 blocking ("-" ∷ "1 thread 1" ∷ "0 thread 0" ∷ "2 thread 2" ∷ [])
    ∷ row 2 idle ("-" ∷ "0 thread 1" ∷ [])
    ∷ row 2 refused ("-" ∷ [])
    ∷ row 3 refused ("0" ∷ [])
    -- 19: events are numbered from 1, and there are four
    ∷ row 0 donation ("file 19" ∷ [])
    ∷ row 5 donation ("file 19" ∷ [])
    ∷ row 4294967295 donation ("file 19" ∷ [])
    -- 14: a shorter input, and then an empty file
    ∷ record { input = 0 ∷ 0 ∷ 1 ∷ []; prints = "file 14" ∷ [] }
    ∷ record { input = four_bytes 1; prints = "file 14" ∷ [] }
    ∷ []

pub marked : All Meets rows
unfolding computing rows text
marked =
    refl also refl also refl also refl also refl also refl also refl also refl also refl also refl also refl also refl also refl also
    refl also refl also tt
