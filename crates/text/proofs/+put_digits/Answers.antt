-- A number of more than four digits is put as the number without its last two, and then those.
use native.Mathlib.Omega.{arith}
use Rattle.text.proofs.Decimals.{pair_put}
use Rattle.text.proofs.+put_digits.Goals as goal

pub returns : goal.returns
returns t c = pair_put c.args.n (omega (arith, c.if-n-lt10000.false)) c.put_digits-last.ensures c.put_pair.ensures
