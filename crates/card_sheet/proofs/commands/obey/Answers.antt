-- By its op.
use Rattle.std.proofs.Common.{rules}
use Rattle.card_sheet.proofs.Obeying.{obeys_read, obeys_write, obeys_raise, obeys_poll, obeys_run}
use Rattle.card_sheet.proofs.commands.obey.Goals as goal

pub returns-in-0 : goal.returns-in-0
returns-in-0 c =
    obeys_read c.requires c.args.block.now c.args.command (search rules) c.read_register-reading.result c.in-0.is
    c.read_register-reading.ensures (search rules) c.unwrap_or.ensures

pub returns-in-1 : goal.returns-in-1
returns-in-1 c =
    obeys_write c.requires c.args.block.now c.args.command (search rules) c.in-1.is c.write_register.ensures (search rules)

pub returns-in-2 : goal.returns-in-2
returns-in-2 c =
    obeys_raise c.requires c.args.block.now c.args.command (search rules) c.in-2.is c.raise_line.ensures (search rules)

pub returns-in-3 : goal.returns-in-3
returns-in-3 c =
    obeys_poll c.requires c.args.block.now c.args.command (search rules) c.poll-polled.ensures (search rules) (search rules)

pub returns-in_default : goal.returns-in_default
returns-in_default c =
    obeys_run c.requires c.args.block.now c.args.command (search rules) (search rules) (search rules) (search rules)
    c.run_events-ran.ensures
