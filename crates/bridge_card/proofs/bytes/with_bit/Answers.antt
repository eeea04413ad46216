-- Bit by bit; the bit that is shifted up stays within the byte.
use native.Mathlib.Omega.{arith}
use Rattle.bits.proofs.Operations.{with_one}
use Rattle.bridge_card.proofs.bytes.with_bit.Goals as goal

pub returns : goal.returns
returns c = with_one 8 c.args.byte c.args.i (omega arith) c.requires
