-- The timeslices passed by have passed the test.
use mathlib.Core.Path.{sym, ap, ◌∙◌}
use Rattle.std.proofs.Common.{rules}
use Rattle.rules.specs.Tests.{all}
use Rattle.tables.proofs.Lookups.{take-entries}
use Rattle.plain_engine.specs.Shape.{turn_test}
use Rattle.plain_engine.proofs.Walks.{all_here, all_later, all_none}
use Rattle.plain_engine.proofs.PlainMachine.turns_good.Goals as goal

pub loop-t-init : goal.loop-t-init
loop-t-init c = ap (all (λ t. turn_test c.args.self.now.threads c.args.self.now.slices t)) (search (rules, take-entries))

pub returns-then-not-turn_good : goal.returns-then-not-turn_good
returns-then-not-turn_good c =
    all_here _ _ _ c.loop-t-test.true (sym c.turn_good.ensures ∙ c.if-not-turn_good.true) ∙ c.loop-t.invariant

pub loop-t-preserved : goal.loop-t-preserved
loop-t-preserved c =
    sym (all_later _ _ _ c.loop-t-test.true (sym c.turn_good.ensures ∙ c.if-not-turn_good.false)) ∙ c.loop-t.invariant

pub returns : goal.returns
returns c = all_none _ _ _ c.loop-t-test.false ∙ c.loop-t.invariant
