-- The thread's own timeslice is listed, so one entry less is live.
use mathlib.Core.Path.{ap, sym, ◌∙◌}
use Rattle.std.proofs.Common.{rules}
use Rattle.tables.specs.Sets.{sought_of}
use Rattle.plain_engine.proofs.Changes.{some_live, remove_changes}
use Rattle.plain_engine.proofs.PlainMachine.update_remove.Goals as goal

pub overflow_sub-self : goal.overflow_sub-self
overflow_sub-self c =
    search (rules, some_live c.args.self.now _ _ (search rules) (sym c.own.ensures ∙ ap sought_of c.in-Some.is))

pub returns-in-Some : goal.returns-in-Some
returns-in-Some c =
    remove_changes c.args.self.now _ _ (search rules) (sym c.own.ensures ∙ ap sought_of c.in-Some.is) _ _ _ _
    c.removed-self.ensures c.with_entry-self.ensures c.strike_out-self.ensures (search rules)
