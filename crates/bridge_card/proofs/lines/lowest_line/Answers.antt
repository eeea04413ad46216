-- The search from line 0 up.
use Rattle.std.proofs.Common.{rules}
use Rattle.std.proofs.lemmas.Iterator.{first_from_Range}
use mathlib.Core.Bool.{true, false}
use mathlib.Core.Path.{◌≡◌}
use Rattle.bits.specs.Bits.{bit}
use Rattle.bridge_card.proofs.Lowest.{searched}
use Rattle.bridge_card.proofs.lines.lowest_line.Goals as goal

pub returns : goal.returns
returns c =
    searched (λ i. bit i c.args.lines) c.find.result
    (first_from_Range _ _ _ _ (λ i. bit i c.args.lines ≡ true) (λ i. bit i c.args.lines ≡ false) c.find.ensures.ran
    (λ x q k. search rules) (λ x q k. search rules))
