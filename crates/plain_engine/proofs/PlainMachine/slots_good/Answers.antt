-- The closure computes the test of one number.
use mathlib.Core.Path.{refl}
use Rattle.std.proofs.Common.{rules}
use Rattle.soundness.proofs.Library.{all_below}
use Rattle.plain_engine.proofs.PlainMachine.slots_good.Goals as goal

pub returns : goal.returns
returns c = all_below _ _ _ (search rules) (search rules) _ _ refl refl c.all.ensures.runs
