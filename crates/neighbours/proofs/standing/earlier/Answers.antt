-- The first of the turn order that is one of the two decides.
use mathlib.Core.Path.{refl}
use native.Mathlib.Omega.{arith}
use borrow.Author.Tests.{eq-eqb, ne_eqb}
use Rattle.rules.specs.Order.{earlier as earlier_of}
use Rattle.neighbours.proofs.Stepping.{here_for, next_for, from_index, out}
use Rattle.neighbours.proofs.standing.earlier.Goals as goal

pub returns-then-t-b : goal.returns-then-t-b
unfolding earlier_of
returns-then-t-b c =
    let whole = here_for _ _ _ _ _ _ _ c.loop.invariant (omega (arith, c.entries-end.ensures)) c.neighbour_at-t.ensures in
    rw (eq-eqb _ _ c.if-t-b.true) at whole

pub returns-then-t-a : goal.returns-then-t-a
unfolding earlier_of
returns-then-t-a c =
    let whole = here_for _ _ _ _ _ _ _ c.loop.invariant (omega (arith, c.entries-end.ensures)) c.neighbour_at-t.ensures in
    rw (ne_eqb _ _ c.if-t-b.false, eq-eqb _ _ c.if-t-a.true) at whole

pub loop-preserved : goal.loop-preserved
unfolding earlier_of
loop-preserved c =
    from_index _ _ _ _ _ _
    (next_for _ _ _ _ _ _ _ c.loop.invariant (omega (arith, c.entries-end.ensures)) c.neighbour_at-t.ensures
    (rw (ne_eqb _ _ c.if-t-b.false, ne_eqb _ _ c.if-t-a.false) refl)) c.from-at.ensures

pub returns : goal.returns
unfolding earlier_of
returns c = out _ _ _ _ _ c.loop.invariant (omega (arith, c.entries-end.ensures))
