-- The last two digits come after the others.
use Rattle.text.proofs.Decimals.{pair_put}
use Rattle.text.proofs.put_four_digits.Goals as goal

pub returns : goal.returns
returns c = pair_put c.args.n c.if-n-lt100.false c.put_two_digits-third.ensures c.put_pair.ensures
