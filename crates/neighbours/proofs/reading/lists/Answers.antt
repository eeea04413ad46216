-- The first of the turn order that is the timeslice decides.
use mathlib.Core.Path.{refl}
use native.Mathlib.Omega.{arith}
use borrow.Author.Tests.{eq-eqb, ne_eqb}
use Rattle.rules.specs.Tests.{member}
use Rattle.neighbours.proofs.Stepping.{here_for, next_for, out}
use Rattle.neighbours.proofs.reading.lists.Goals as goal

pub returns-then-t-at : goal.returns-then-t-at
unfolding member
returns-then-t-at c =
    let whole = here_for _ _ _ _ _ _ _ c.loop.invariant (omega (arith, c.entries-end.ensures)) c.neighbour-at.ensures in
    rw (eq-eqb _ _ c.if-t-at.true) at whole

pub loop-preserved : goal.loop-preserved
unfolding member
loop-preserved c =
    next_for _ _ _ _ _ _ _ c.loop.invariant (omega (arith, c.entries-end.ensures)) c.neighbour-at.ensures
    (rw (ne_eqb _ _ c.if-t-at.false) refl)

pub returns : goal.returns
unfolding member
returns c = out _ _ _ _ _ c.loop.invariant (omega (arith, c.entries-end.ensures))
