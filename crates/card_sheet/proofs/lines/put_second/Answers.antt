-- The byte, and behind it the block's.
use Rattle.text.proofs.Puts.{◌then◌}
use Rattle.card_sheet.proofs.lines.put_second.Goals as goal

pub returns : goal.returns
returns c = rw c.from.ensures at c.put_decimal-end.ensures then c.put_block.ensures
