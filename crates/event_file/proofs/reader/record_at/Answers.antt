-- `record_at`: the length byte says how many bytes of what follows it are the record's body; the body is read.
use mathlib.Core.Path.{sym, ◌∙◌}
use Rattle.event_file.proofs.Reading.{past, read_none, read_one}
use Rattle.event_file.proofs.reader.record_at.Goals as goal

pub returns-in_err-get : goal.returns-in_err-get
returns-in_err-get c =
    c.from_residual.ensures ∙ past c.args.file.now c.args.at _ c.requires c.from-count.ensures c.in_err-get.ensures.lookup.0

pub returns-in_err-event : goal.returns-in_err-event
returns-in_err-event c =
    let cut = c.in_ok-get.ensures.lookup.0 in
    c.from_residual-in_err-event.ensures
    ∙ read_none c.args.file.now c.args.at _ _ c.requires c.from-count.ensures cut.1 cut.2 (sym c.in_err-event.was ∙ c.body.ensures)

pub returns : goal.returns
returns c =
    let cut = c.in_ok-get.ensures.lookup.0 in
    read_one c.args.file.now c.args.at _ _ c.requires c.from-count.ensures cut.1 cut.2 (sym c.in_ok-event.was ∙ c.body.ensures)
