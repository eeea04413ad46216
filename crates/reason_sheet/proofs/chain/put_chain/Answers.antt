-- The first thread, and then those after it.
use Rattle.text.proofs.Puts.{◌then◌, reading}
use Rattle.reason_sheet.proofs.Chains.{line_begins}
use Rattle.reason_sheet.proofs.chain.put_chain.Goals as goal

pub returns : goal.returns
returns c =
    reading (line_begins c.args.links c.args.threads c.args.from)
    (c.put_decimal-next.ensures then c.put_later.ensures)
