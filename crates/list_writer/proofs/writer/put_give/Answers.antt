-- The name and then four numbers with a space between them.
use Rattle.list_writer.proofs.Printing.{give_in_parts}
use Rattle.text.proofs.Puts.{◌then◌, reading}
use Rattle.rules.specs.Key.{bytes}
use Rattle.list_writer.proofs.writer.put_give.Goals as goal

pub returns : goal.returns
unfolding bytes
returns c =
    reading (give_in_parts c.from.ensures c.from-2.ensures c.from-3.ensures c.from-4.ensures)
    (c.put_named-second.ensures then c.put_named-third.ensures then c.put_named-fourth.ensures then
    c.put_named.ensures)
