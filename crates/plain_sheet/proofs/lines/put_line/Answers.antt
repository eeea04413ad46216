-- The columns and the line feed, one after the other.
use Rattle.rules.specs.Key.{bytes}
use Rattle.text.proofs.Puts.{◌then◌}
use Rattle.plain_sheet.proofs.lines.put_line.Goals as goal

pub returns : goal.returns
unfolding bytes
returns c =
    c.put_columns-end.ensures then c.put_byte.ensures
