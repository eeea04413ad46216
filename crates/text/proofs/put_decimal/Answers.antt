-- By its size a number is put at once, with one pair more, or pair by pair.
use Rattle.text.proofs.Decimals.{pair_put}
use native.Mathlib.Omega.{arith}
use Rattle.text.proofs.put_decimal.Goals as goal

pub returns-then-rest-lt10000 : goal.returns-then-rest-lt10000
returns-then-rest-lt10000 c =
    pair_put c.args.n (omega (arith, c.if-n-lt10000.false)) c.put_four_digits-last.ensures c.put_pair.ensures
