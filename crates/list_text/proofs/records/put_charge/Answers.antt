-- Length and kind, and then the operand.
use Rattle.text.proofs.Puts.{◌then◌}
use Rattle.list_text.proofs.records.put_charge.Goals as goal

pub returns : goal.returns
returns c =
    c.put_bytes-operand.ensures then c.put_word.ensures
