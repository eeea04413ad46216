-- Each step back is asked as it is made, so that what is left to ask is the whole.
use native.Mathlib.Omega.{arith}
use mathlib.Core.Path.{◌∙◌}
use borrow.Author.Tests.{ne_eqb}
use Rattle.neighbours.proofs.Backward.{not_low, not_back, goes_on, not_closed, closed}
use Rattle.neighbours.proofs.forming.leads_back.Goals.{then-t-gt127-via-then-t-gt127, then-t-gt127-via-else-t-gt127+then-neighbour-at}
use Rattle.neighbours.proofs.forming.leads_back.Goals as goal

pub returns-then-t-gt127 : goal.returns-then-t-gt127
returns-then-t-gt127 c =
    elim c.then-t-gt127.branch [
      | then-t-gt127-via-then-t-gt127 w ↦
          not_low _ _ _ _ _ c.loop.invariant (omega arith) c.neighbour-t.ensures (omega (arith, w.if-t-gt127.true))
      | then-t-gt127-via-else-t-gt127+then-neighbour-at w ↦
          not_back _ _ _ _ _ _ c.loop.invariant (omega arith) c.neighbour-t.ensures w.neighbour.ensures w.if-neighbour-at.true
    ]

pub loop-preserved : goal.loop-preserved
loop-preserved c =
    goes_on _ _ _ _ _ _ c.loop.invariant c.loop-test.true c.neighbour-t.ensures (omega arith) c.neighbour.ensures c.if-neighbour-at.false

pub returns-then-neighbour : goal.returns-then-neighbour
returns-then-neighbour c =
    closed _ _ _ _ _ _ c.loop.invariant (omega arith) c.neighbour-2.ensures c.if-neighbour.true c.neighbour-then-neighbour.ensures

pub returns-else-neighbour : goal.returns-else-neighbour
returns-else-neighbour c =
    ne_eqb _ _ c.if-neighbour.false ∙ not_closed _ _ _ _ _ c.loop.invariant (omega arith) c.neighbour-2.ensures c.if-neighbour.false
