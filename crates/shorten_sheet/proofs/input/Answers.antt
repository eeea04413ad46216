-- The buffer has more bytes than a number and a file may have.
use Prim.Native.Nat.{ℕ}
use native.Mathlib.Omega.{arith}
use mathlib.Core.Path.{ap}
use lib.ListN.{length, length-replicate}
use Rattle.shorten_sheet.proofs.Room.{enough_for_shorter}
use Rattle.shorten_sheet.proofs.input.Goals as goal

pub returns : goal.returns
returns c = enough_for_shorter (length c.zeros.result) (omega (arith, ap length c.zeros.ensures, length-replicate {A = ℕ} 65538 0))
