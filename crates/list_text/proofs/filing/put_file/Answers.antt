-- The first five bytes and then the records.
use Rattle.text.proofs.Puts.{◌then◌}
use Rattle.list_text.proofs.filing.put_file.Goals as goal

pub returns : goal.returns
returns c =
    c.put_head-from.ensures then c.put_lines.ensures
