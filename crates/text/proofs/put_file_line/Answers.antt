-- The word with its space, the number and the line feed, one after the other.
use Rattle.rules.specs.Key.{bytes, file_line}
use Rattle.text.proofs.Puts.{◌then◌}
use Rattle.text.proofs.put_file_line.Goals as goal

pub returns : goal.returns
unfolding file_line bytes
returns c =
    let number = rw c.from.ensures at c.put_decimal-end.ensures in
    c.put_bytes-number.ensures then number then c.put_byte.ensures
