-- Each later entry moves up by one, and `last` fills the last live one.
use Prim.Native.Nat.{◌<◌}
use native.Mathlib.Omega.{arith}
use Rattle.tables.proofs.Shifts.{shifts}
use Rattle.tables.proofs.turns.shifted.Goals as goal

pub returns : goal.returns
returns c =
    let inside : c.args.from < c.entries-n.result = omega (arith, c.entries-n.ensures) in
    shifts _ _ _ _ _ _ c.well_formed.0.1.0.1 c.entries-n.ensures inside c.copy_within.ensures.after c.copy_within.ensures.len
