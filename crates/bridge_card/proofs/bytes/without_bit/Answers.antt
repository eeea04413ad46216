-- Bit by bit; the bit that is shifted up stays within the byte.
use native.Mathlib.Omega.{arith}
use Rattle.bits.proofs.Operations.{without_one}
use Rattle.bridge_card.proofs.bytes.without_bit.Goals as goal

pub returns : goal.returns
returns c = without_one 8 c.args.byte c.args.i (omega arith) c.requires
