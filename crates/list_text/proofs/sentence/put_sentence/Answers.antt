-- The words, the number, the colon, the fault and the line feed, one after the other.
use Rattle.rules.specs.Key.{bytes}
use Rattle.text.proofs.Puts.{◌then◌}
use Rattle.list_text.specs.Answers.{sentence}
use Rattle.list_text.proofs.sentence.put_sentence.Goals as goal

pub returns : goal.returns
unfolding sentence bytes
returns c =
    c.put_bytes-number.ensures then c.put_decimal-colon.ensures then c.put_bytes-what.ensures then c.put_fault-end.ensures
    then c.put_byte.ensures
