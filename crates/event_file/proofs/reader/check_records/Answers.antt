-- `check_records`: what is left to read decides as the whole does; where a turn reads no record, the file does not read on.
use mathlib.Core.Path.{sym, ◌∙◌}
use borrow.Author.Rules.{rules}
use Rattle.event_file.proofs.Reading.{ended, ends, goes_on}
use Rattle.event_file.proofs.reader.check_records.Goals as goal

pub returns-in_default : goal.returns-in_default
returns-in_default c =
    rw (← c.loop-at.invariant, ends c.args.file.now c.loop-at.at (search rules) _ c.record_at.ensures c.in_default.not-Some)

pub loop-at-preserved : goal.loop-at-preserved
loop-at-preserved c =
    let turn = goes_on c.args.file.now c.loop-at.at (search rules) _ (sym c.in-Some.is ∙ c.record_at.ensures) in
    sym turn.same ∙ c.loop-at.invariant

pub returns : goal.returns
returns c = rw (← c.loop-at.invariant, ended c.args.file.now c.loop-at.at (search rules))
