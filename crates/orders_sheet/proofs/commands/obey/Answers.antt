-- By its op.
use Rattle.std.proofs.Common.{rules}
use Rattle.orders_sheet.proofs.Obeying.{obeys_abort, obeys_withdraw, obeys_take, obeys_run}
use Rattle.orders_sheet.proofs.commands.obey.Goals as goal

pub returns-in-0 : goal.returns-in-0
returns-in-0 c =
    obeys_abort c.requires c.args.store.now c.args.command (search rules) (search rules) c.in-0.is c.give_abort.ensures

pub returns-in-1 : goal.returns-in-1
returns-in-1 c =
    obeys_withdraw c.requires c.args.store.now c.args.command (search rules) (search rules) c.in-1.is c.give_withdraw.ensures

pub returns-in-2 : goal.returns-in-2
returns-in-2 c =
    obeys_take c.requires c.args.store.now c.args.command c.in-2.is c.take-taken.ensures (search rules) (search rules)

pub returns-in_default : goal.returns-in_default
returns-in_default c =
    obeys_run c.requires c.args.store.now c.args.command (search rules) (search rules) (search rules) c.run_events-ran.ensures
