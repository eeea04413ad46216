-- The words and then the line feed.
use Rattle.text.proofs.Puts.{◌then◌}
use Rattle.rules.specs.Key.{bytes}
use Rattle.list_writer.proofs.writer.put_event_line.Goals as goal

pub returns : goal.returns
unfolding bytes
returns c =
    c.put_event-end.ensures then c.put_byte.ensures
