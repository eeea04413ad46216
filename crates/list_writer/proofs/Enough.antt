-- THE THEOREM of the input: one byte more than a file may have is enough of any input, because a longer one is refused by its length alone.
use Prim.Native.Nat.{ℕ, ◌<◌}
use mathlib.Core.Path.{◌≡◌}
use mathlib.Core.List.{List}
use lib.ListN.{length, take}
use Rattle.rules.specs.Key.{file_line}
use Rattle.rules.proofs.Files.Refusing.{refuses_long}
use Rattle.text.proofs.Enough.{enough_for_one}
use Rattle.list_writer.specs.Writing.{file_text}

-- a file of more than 65,536 bytes is refused
long_file : (file : List ℕ) → 65536 < length file → file_text file ≡ file_line 14
unfolding file_text
long_file file h = rw (refuses_long file h)

pub enough_of_a_file : (n : ℕ) → 65536 < n → (b : List ℕ) → file_text (take n b) ≡ file_text b
enough_of_a_file = enough_for_one file_text 65536 (file_line 14) long_file
