-- The timeslices that the iterator has given have been judged, and the topmost of those that may run is known.
use mathlib.Core.Path.{sym, ◌∙◌}
use Rattle.std.proofs.Common.{rules}
use Rattle.tables.proofs.Lookups.{take-entries}
use Rattle.plain_engine.proofs.Judged.{none_judged, one_taken, one_left, all_judged}
use Rattle.plain_engine.proofs.PlainMachine.topmost_runnable.Goals as goal

pub loop-t-init : goal.loop-t-init
loop-t-init c = none_judged _ _ _ _ (search (rules, take-entries))

pub loop-t-preserved-then-may_run : goal.loop-t-preserved-then-may_run
loop-t-preserved-then-may_run c =
    one_taken _ _ _ _ _ c.loop-t.invariant _ _ c.in-Some.ensures.steps _ (sym c.may_run.ensures ∙ c.if-may_run.true) c.upper-top.ensures

pub loop-t-preserved : goal.loop-t-preserved
loop-t-preserved c = one_left _ _ _ _ _ c.loop-t.invariant _ _ c.in-Some.ensures.steps (sym c.may_run.ensures ∙ c.if-may_run.false)

pub returns : goal.returns
returns c = all_judged _ _ _ _ _ c.loop-t.invariant (search rules)
