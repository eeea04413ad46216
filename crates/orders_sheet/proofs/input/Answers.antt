-- The buffer has one byte more than an input that is not refused for its length.
use Prim.Native.Nat.{ℕ}
use native.Mathlib.Omega.{arith}
use mathlib.Core.Path.{ap}
use lib.ListN.{length, length-replicate}
use Rattle.orders_sheet.proofs.Room.{enough_for_orders}
use Rattle.orders_sheet.proofs.input.Goals as goal

pub returns : goal.returns
returns c = enough_for_orders (length c.zeros.result) (omega (arith, ap length c.zeros.ensures, length-replicate {A = ℕ} 67068 0))
