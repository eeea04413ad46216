-- The space and the number, one after the other.
use Rattle.rules.specs.Key.{bytes}
use Rattle.text.proofs.Puts.{◌then◌}
use Rattle.reason_sheet.proofs.chain.put_next.Goals as goal

pub returns : goal.returns
unfolding bytes
returns c =
    c.put_byte-space.ensures then c.put_decimal.ensures
