-- The columns one after the other, each of the first three with its space.
use Rattle.rules.specs.Key.{bytes}
use Rattle.text.proofs.Puts.{◌then◌, reading}
use Rattle.text.proofs.ColumnParts.{columns_in_parts}
use Rattle.text.proofs.columns.put_columns.Goals as goal

pub returns : goal.returns
unfolding bytes
returns c =
    let refusal = rw c.from.ensures at c.put_column-second.ensures in
    reading (columns_in_parts c.args.number c.args.refusal c.args.running)
    (c.put_column-verdict.ensures then c.put_verdict-space.ensures then c.put_byte-first.ensures then refusal then c.put_running.ensures)
