-- Length, kind and operands, one after the other.
use Rattle.text.proofs.Puts.{◌then◌}
use Rattle.list_text.proofs.records.put_give.Goals as goal

pub returns : goal.returns
returns c =
    c.put_bytes-last.ensures then c.put_word.ensures
