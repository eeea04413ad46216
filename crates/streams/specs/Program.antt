-- What a program writes: of what it read, what its sheet says.
use Rattle.std.specs.Prelude.{ℕ, ◌≤◌, ◌<◌, ◌≡◌, List, ◌++◌, codes, length, take, Option, Some, None, Result, Ok, Err, ⊤}
use Rattle.std.specs.Io.KnownBytes.{Appends, Keeps}
use Rattle.streams.specs.Counts.{failure_text}
use denote.Ref.{Bor, MutBor}
use Rattle.streams.specs.declared.failure.Failure.{Failure}
use Rattle.streams.specs.declared.failure.Failure.TheVariants.{Read, Write}

-- the bytes read are the first of an input that is known, as many as have room
abbrev pub IsFrontOf : Option (List ℕ) → ℕ → List ℕ → Type 0
IsFrontOf (Some input) room file = file ≡ take room input
IsFrontOf None room file = ⊤

module _ {B : Type 0} (bytes : B → List ℕ) (sheet : Bor (List ℕ) → MutBor B → ℕ → MutBor B → Type 0) where
  -- a sheet counts no more bytes than its buffer has
  abbrev pub CountsWithin : Type 0
  CountsWithin = (file : _) (out : _) (n : ℕ) (filled : _) → sheet file out n filled → n ≤ length (bytes filled.now)

  -- the sheet counted so many bytes of what was read, and a writer holds the first `sent` bytes of its buffer behind what it held
  pub record Prints (input : Option (List ℕ)) (room : ℕ) (old new : Option (List ℕ)) (counted sent : ℕ) : Type 0 where
    pub file : Bor (List ℕ)
    pub out : MutBor B
    pub filled : MutBor B
    pub read : IsFrontOf input room file.now
    pub written : sheet file out counted filled
    pub held : Appends old new (take sent (bytes filled.now))

  -- all that the sheet counted is written, or reading failed and nothing is, or writing failed and a part of it is
  abbrev pub Answers : Option (List ℕ) → List ℕ → Option (List ℕ) → Option (List ℕ) → Result ℕ Failure → Type 0
  Answers input buffer old new (Ok n) = Prints input (length buffer) old new n n
  Answers input buffer old new (Err (Read e)) = Keeps old new
  Answers input buffer old new (Err (Write e)) = (n : ℕ) × (e.written < n) × Prints input (length buffer) old new n e.written

-- the line that a program says of a failure
abbrev pub complaint : List ℕ → Failure → List ℕ
complaint name failure = name ++ codes ": " ++ failure_text failure ++ codes "\n"

-- a writer holds the complaint behind what it held, or where nothing failed what it held
abbrev pub Reports : List ℕ → Option (List ℕ) → Option (List ℕ) → Result ℕ Failure → Type 0
Reports name old new (Ok n) = Keeps old new
Reports name old new (Err failure) = Appends old new (complaint name failure)
