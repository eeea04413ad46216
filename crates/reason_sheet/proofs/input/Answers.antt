-- The buffer has more bytes than a number and a file may have.
use Prim.Native.Nat.{ℕ}
use native.Mathlib.Omega.{arith}
use mathlib.Core.Path.{ap}
use lib.ListN.{length, length-replicate}
use Rattle.text.proofs.Enough.{enough_for_reason}
use Rattle.reason_sheet.proofs.input.Goals as goal

pub returns : goal.returns
returns c = enough_for_reason (length c.zeros.result) (omega (arith, ap length c.zeros.ensures, length-replicate {A = ℕ} 65541 0))
