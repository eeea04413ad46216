-- THE THEOREM of the input: one byte more than a list may have is enough of any input, because a longer one is refused by its length alone.
use Prim.Native.Nat.{ℕ, ◌≤◌, ◌<◌}
use native.Mathlib.Omega.{arith}
use mathlib.Core.Path.{◌≡◌, refl}
use mathlib.Core.List.{List}
use lib.ListN.{length, take}
use lib.Seq.{take-take, length-take-le}
use borrow.Author.Tests.{lt-ltb}
use Rattle.text.proofs.Enough.{enough}
use Rattle.list_text.specs.Reading.{read_text}

-- a list of more than 1,048,576 bytes is refused in the line where it has one more
long_list : (b : List ℕ) (n : ℕ) → 1048576 < n → n ≤ length b → read_text (take n b) ≡ read_text b
unfolding read_text
long_list b n more long =
    let cut = length-take-le n b long in
    let whole : 1048576 < length b = omega arith in
    let part : 1048576 < length (take n b) = omega arith in
    rw (lt-ltb 1048576 (length (take n b)) part, lt-ltb 1048576 (length b) whole, take-take 1048576 n b (omega arith)) refl

pub enough_of_a_list : (n : ℕ) → 1048576 < n → (b : List ℕ) → read_text (take n b) ≡ read_text b
enough_of_a_list = enough read_text 1048576 long_list
