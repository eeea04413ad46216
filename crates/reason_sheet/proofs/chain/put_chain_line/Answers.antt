-- Nothing runs, or the chain of the current timeslice from its owner.
use Rattle.rules.specs.Key.{bytes}
use Rattle.text.proofs.Puts.{reading}
use Rattle.reason_sheet.proofs.Listing.{chain_line_lem}
use Rattle.reason_sheet.proofs.chain.put_chain_line.Goals as goal

pub returns-in_default : goal.returns-in_default
unfolding bytes
returns-in_default c =
    rw c.in_default.is c.put_bytes.ensures

pub returns : goal.returns
returns c =
    reading
    (chain_line_lem c.args.machine _ _ _ c.in-Runs.is c.timeslice_at-current.ensures c.count_live.ensures)
    c.put_chain.ensures
