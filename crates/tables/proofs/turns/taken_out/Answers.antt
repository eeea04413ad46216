-- Where the timeslice stands it is taken out; where it is not listed nothing moves.
use native.Mathlib.Omega.{arith}
use mathlib.Core.Path.{sym, ◌∙◌}
use Rattle.std.specs.Prelude.{Some, None}
use Rattle.tables.proofs.Shifts.{found, taken, untaken}
use Rattle.tables.proofs.turns.taken_out.Goals as goal

pub returns-in-Some : goal.returns-in-Some
returns-in-Some c =
    let at = found _ _ _ c.well_formed.0.1.0.1 (Some c.in-Some.from) (sym c.in-Some.is ∙ c.position.ensures) in
    taken _ _ _ _ _ _ at.0 at.1 c.shifted.ensures

pub returns-in-None : goal.returns-in-None
returns-in-None c =
    untaken _ _ _ _ _ (omega arith) (found _ _ _ c.well_formed.0.1.0.1 None (sym c.in-None.is ∙ c.position.ensures))
