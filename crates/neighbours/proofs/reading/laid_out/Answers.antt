-- After i steps the first i entries are those of the turn order, and the others 0.
use Prim.Native.Nat.{◌<◌}
use native.Mathlib.Omega.{arith}
use Rattle.tables.specs.Turning.{entries_of}
use Rattle.neighbours.specs.Sides.{sentinel}
use Rattle.neighbours.proofs.Stepping.{read_one, read_this, lay_one, lay_all, length-turns}
use Rattle.neighbours.proofs.reading.laid_out.Goals as goal

pub loop-i-preserved : goal.loop-i-preserved
loop-i-preserved c =
    let short : c.loop-i.i < entries_of c.args.live = omega (arith, c.entries-i-end.ensures) in
    let long = length-turns (entries_of c.args.live) c.args.after.now sentinel in
    record {
      read = read_one _ _ _ _ _ _ c.loop-i.invariant.read short c.neighbour-at.ensures;
      laid =
          lay_one _ _ _ _ c.loop-i.invariant.laid (omega (arith, long)) (omega arith)
          (read_this _ _ _ _ _ _ c.loop-i.invariant.read short c.neighbour-at.ensures);
    }

pub returns : goal.returns
returns c = lay_all _ _ _ _ c.loop-i.invariant.laid (omega (arith, c.entries-i-end.ensures, c.loop-i.invariant.read.inside))
