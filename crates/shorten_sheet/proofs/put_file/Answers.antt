-- The head, and then the records.
use Rattle.text.proofs.Puts.{◌then◌}
use Rattle.shorten_sheet.proofs.put_file.Goals as goal

pub returns : goal.returns
returns c =
    c.put_head-first.ensures then c.put_bytes.ensures
