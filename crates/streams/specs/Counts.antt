-- How many bytes were read or written, and when that counts as a failure.
use Rattle.std.specs.Prelude.{ℕ, ◌≤◌, ◌≡◌, Bool, true, false, ltb, List, length, take, codes, Option, Some, None, Result, Ok, Err, ⊤}
use Rattle.streams.specs.declared.failure.ReadFailed.{ReadFailed}
use Rattle.streams.specs.declared.failure.WriteFailed.{WriteFailed}
use Rattle.streams.specs.declared.failure.Failure.{Failure}
use Rattle.streams.specs.declared.failure.Failure.TheVariants.{Read, Write}

-- whether reading or writing failed
abbrev pub failed : {E : Type 0} → Result ℕ E → Bool
failed (Ok n) = false
failed (Err e) = true

-- how many bytes were read, none where reading failed
abbrev pub read_of : Result ℕ ReadFailed → ℕ
read_of (Ok n) = n
read_of (Err e) = 0

-- how many bytes were written
abbrev pub written_of : Result ℕ WriteFailed → ℕ
written_of (Ok n) = n
written_of (Err e) = e.written

-- the bytes read stand at the front of the buffer, which keeps its length; a failed read counts none
pub record Filled (r : Result ℕ ReadFailed) (before after : List ℕ) : Type 0 where
  pub within : read_of r ≤ length after
  pub kept : length after ≡ length before
  pub none : failed r ≡ true → read_of r ≡ 0

-- the bytes read are the first of an input that is known, as many as have room
abbrev pub Reads : Result ℕ ReadFailed → Option (List ℕ) → List ℕ → Type 0
Reads (Ok n) (Some input) after = take n after ≡ take (length after) input
Reads (Ok n) None after = ⊤
Reads (Err e) input after = ⊤

-- writing failed where not all was written
pub record Sent (r : Result ℕ WriteFailed) (text : List ℕ) : Type 0 where
  pub within : written_of r ≤ length text
  pub whole : failed r ≡ ltb (written_of r) (length text)

-- what a program says of a failure
abbrev pub failure_text : Failure → List ℕ
failure_text (Read f) = codes "standard input cannot be read"
failure_text (Write f) = codes "standard output cannot be written"
