-- Each library writes its key, and of every string of bytes the two keys agree but for the last column.
use Rattle.two_engines.proofs.Keys.{agree}
use Rattle.two_engines.proofs.write_both.Goals as goal

pub returns-clause-agree : goal.returns-clause-agree
returns-clause-agree c =
    agree c.args.file.now (λ i. (c.type_inv.file i).fits) _ _ _ _ _ _ c.write_key-first.ensures c.write_plain_key-second.ensures
