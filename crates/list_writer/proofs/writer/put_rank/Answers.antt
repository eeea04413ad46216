-- The name and then two numbers with a space between them.
use Rattle.list_writer.proofs.Printing.{rank_in_parts}
use Rattle.text.proofs.Puts.{◌then◌, reading}
use Rattle.rules.specs.Key.{bytes}
use Rattle.list_writer.proofs.writer.put_rank.Goals as goal

pub returns : goal.returns
unfolding bytes
returns c =
    reading (rank_in_parts c.from.ensures c.from-2.ensures)
    (c.put_named-second.ensures then c.put_named.ensures)
