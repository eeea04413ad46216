-- One copy within the buffer.
use Rattle.shorten_sheet.proofs.Moves.{moved_up}
use Rattle.shorten_sheet.proofs.moving.move_up.Goals as goal

pub returns : goal.returns
returns c =
    moved_up c.args.work.now _ c.args.from c.args.end c.args.place c.requires.0 c.requires.1 c.requires.2 c.copy_within.ensures.after
    c.copy_within.ensures.len
