-- One digit, or two.
use Rattle.text.proofs.Decimals.{one_put, two_put}
use Rattle.text.proofs.put_two_digits.Goals as goal

pub returns-then-n-lt10 : goal.returns-then-n-lt10
returns-then-n-lt10 c = one_put c.args.n c.if-n-lt10.true c.last_digit.ensures c.put_byte.ensures

pub returns : goal.returns
returns c = two_put c.args.n c.if-n-lt10.false c.requires c.put_pair.ensures
