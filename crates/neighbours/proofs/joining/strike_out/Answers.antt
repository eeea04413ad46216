-- It is passed over, and then its entries are freed.
use mathlib.Core.Path.{ap, ap₂, ◌∙◌}
use Rattle.neighbours.specs.Sides.{sides}
use Rattle.neighbours.specs.Joining.{cleared, struck_out}
use Rattle.neighbours.proofs.Changing.{strikes}
use Rattle.neighbours.proofs.joining.strike_out.Goals as goal

pub returns : goal.returns
unfolding struck_out
returns c =
    let change = strikes _ _ _ (ap₂ sides c.put.ensures c.put-2.ensures ∙ ap (cleared _) c.pass_over.ensures) in
    record { entries = change.0; turned = change.1 }
