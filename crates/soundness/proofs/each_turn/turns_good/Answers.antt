-- What is left to ask from this timeslice on gives the whole.
use mathlib.Core.Path.{sym, ◌∙◌}
use Rattle.soundness.proofs.Loops.{all_more, all_fails, all_passed}
use Rattle.soundness.proofs.each_turn.turns_good.Goals as goal

pub returns-then-not-turn_good : goal.returns-then-not-turn_good
returns-then-not-turn_good c =
    all_fails _ _ _ _ _ _ c.loop.invariant _ c.loop-test.true c.neighbour-t.ensures (sym c.turn_good.ensures ∙ c.if-not-turn_good.true)

pub loop-preserved : goal.loop-preserved
loop-preserved c =
    all_more _ _ _ _ _ _ c.loop.invariant _ c.loop-test.true c.neighbour-t.ensures (sym c.turn_good.ensures ∙ c.if-not-turn_good.false)

pub returns : goal.returns
returns c = all_passed _ _ _ _ _ _ c.loop.invariant c.loop-test.false
