-- The buffer has more bytes than a list may have.
use Prim.Native.Nat.{ℕ, ◌<◌}
use native.Mathlib.Omega.{arith}
use mathlib.Core.Path.{◌≡◌, ap}
use mathlib.Core.List.{List}
use lib.ListN.{length, replicate, length-replicate}
use Rattle.list_text.proofs.Enough.{enough_of_a_list}
use Rattle.list_text.proofs.list_input.Goals as goal

long : (n : ℕ) (l : List ℕ) → l ≡ replicate n 0 → 1048576 < n → 1048576 < length l
long n l e h = omega (arith, ap length e, length-replicate {A = ℕ} n 0)

pub returns : goal.returns
returns c = enough_of_a_list (length c.zeros.result) (long 1048577 c.zeros.result c.zeros.ensures (omega arith))
