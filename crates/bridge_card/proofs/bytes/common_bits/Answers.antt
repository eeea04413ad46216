-- Bit by bit; nothing but the type says how many bits there are.
use native.Mathlib.Omega.{arith}
use Rattle.bits.proofs.Operations.{common}
use Rattle.bridge_card.proofs.bytes.common_bits.Goals as goal

pub returns : goal.returns
returns c = common 8 c.args.a c.args.b (omega arith)
