-- Bit by bit.
use native.Mathlib.Omega.{arith}
use Rattle.bits.proofs.Operations.{without}
use Rattle.bridge_card.proofs.bytes.without_bits.Goals as goal

pub returns : goal.returns
returns c = without 8 c.args.byte c.args.cleared (omega arith) (omega arith)
