-- It is passed over, and then the last.
use mathlib.Core.Path.{ap, ◌∙◌}
use Rattle.neighbours.specs.Joining.{appended, moved_back}
use Rattle.neighbours.proofs.Changing.{moves_back}
use Rattle.neighbours.proofs.joining.move_back.Goals as goal

pub returns : goal.returns
unfolding moved_back
returns c =
    let change = moves_back _ _ _ (c.append.ensures.entries ∙ ap (appended _) c.pass_over.ensures) in
    record { entries = change.0; turned = change.1 }
