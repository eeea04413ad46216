-- The columns, a space, the links and the line feed, one after the other.
use Rattle.rules.specs.Key.{bytes}
use Rattle.text.proofs.Puts.{◌then◌}
use Rattle.text.specs.Line.{line_bytes}
use Rattle.text.proofs.columns.put_key_line.Goals as goal

pub returns : goal.returns
unfolding line_bytes bytes
returns c =
    c.put_columns-space.ensures then c.put_byte-last.ensures then c.put_decimal-end.ensures then c.put_byte.ensures
