-- Each timeslice of the turn order is moved if it is in the set; what is left to release from there on gives the places of the whole.
use mathlib.Core.Path.{◌≡◌}
use mathlib.Core.Bool.{true, false}
use native.Mathlib.Nat.{sub-zero}
use native.Mathlib.Omega.{arith}
use lib.ListN.{get_or}
use Rattle.std.proofs.Common.{rules}
use Rattle.tables.specs.Timeslices.{free_timeslice}
use Rattle.tables.specs.Sets.{set_of}
use Rattle.timeslices.proofs.Searches.{in_turn}
use Rattle.timeslices.proofs.ReleaseLoop.{Moving, begin, move, stay, skip, done}
use Rattle.timeslices.proofs.release.released.Goals.{then-at-lt128+then-eq, else-at-lt128}
use Rattle.timeslices.proofs.release.released.Goals.{else-at-lt128-via-then-at-lt128+else-eq, else-at-lt128-via-else-at-lt128}
use Rattle.timeslices.proofs.release.released.Goals as goal

pub loop-init : goal.loop-init
loop-init c = rw (sub-zero _) (begin _ _ _ _ _ _ c.well_formed.0.1.0.1 c.entries-end.ensures)

pub loop-preserved : goal.loop-preserved
loop-preserved c =
    in_turn (λ left. Moving (set_of c.args.set) c.args.first c.args.after.now c.args.live c.args.timeslices c.if-at-lt128.timeslices left
    c.from-at.result) _ _
    (elim c.if-at-lt128.branch [
      | then-at-lt128+then-eq w ↦
          let taken : set_of c.args.set (get_or c.loop.timeslices c.from-at.result free_timeslice).place ≡ true = search rules in
          rw w.timeslices-is
          (move (set_of c.args.set) _ _ _ _ _ _ _ _ c.loop.invariant (omega arith) c.neighbour_at-t.ensures _ _ c.from-at.ensures taken
          w.released_one.ensures)
      | else-at-lt128 w ↦ elim w.else-at-lt128.branch [
        | else-at-lt128-via-then-at-lt128+else-eq v ↦
            let other : set_of c.args.set (get_or c.loop.timeslices c.from-at.result free_timeslice).place ≡ false = search rules in
            rw w.timeslices-is
            (stay (set_of c.args.set) _ _ _ _ _ _ _ _ c.loop.invariant (omega arith) c.neighbour_at-t.ensures _ c.from-at.ensures other)
        | else-at-lt128-via-else-at-lt128 v ↦
            rw w.timeslices-is
            (skip (set_of c.args.set) _ _ _ _ _ _ _ _ c.loop.invariant (omega arith) c.neighbour_at-t.ensures _ c.from-at.ensures
            v.if-at-lt128.false)
      ]
    ])

pub returns : goal.returns
returns c = done _ _ _ _ _ _ _ _ c.loop.invariant (omega arith)
