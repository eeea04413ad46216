-- The turn order has room, and the timeslice is its last.
use Rattle.std.proofs.Common.{rules}
use Rattle.plain_engine.proofs.Changes.{give_room, give_changes}
use Rattle.plain_engine.proofs.PlainMachine.update_give.Goals as goal

pub bounds-self-from : goal.bounds-self-from
bounds-self-from c = search (rules, give_room _ _ _ _ _ (search rules) c.requires)

pub overflow_add-self : goal.overflow_add-self
overflow_add-self c = search (rules, give_room _ _ _ _ _ (search rules) c.requires)

pub returns : goal.returns
returns c = give_changes _ _ _ _ _ _ _ (search rules) c.requires (search rules) c.with_entry-self.ensures
