-- The last and the timeslice are joined, and then the timeslice and the list's own entry.
use mathlib.Core.Path.{ap, ◌∙◌}
use Rattle.neighbours.specs.Sides.{sentinel, neighbour}
use Rattle.neighbours.specs.Joining.{joined, appended}
use Rattle.neighbours.proofs.Changing.{appends}
use Rattle.neighbours.proofs.joining.append.Goals as goal

pub returns : goal.returns
unfolding appended neighbour
returns c =
    let change = appends _ _ _ (c.join-2.ensures ∙ ap (joined _ sentinel) c.join.ensures) in
    record { entries = change.0; turned = change.1 }
