-- The name and then the number.
use Rattle.text.proofs.Puts.{◌then◌}
use Rattle.list_writer.proofs.writer.put_named.Goals as goal

pub returns : goal.returns
returns c =
    c.put_bytes-number.ensures then c.put_decimal.ensures
