-- The lines so far and those of the events that are left make the whole; where no event is found, none are left.
use mathlib.Core.Path.{sym, ap, ◌∙◌}
use Rattle.event_file.specs.Answers.{shown_found}
use Rattle.event_file.proofs.Steps.{not_record}
use Rattle.list_writer.proofs.Printing.{begin, printed, further, done}
use native.Mathlib.Omega.{arith}
use Rattle.list_writer.proofs.writer.put_events.Goals as goal

pub loop-event-init : goal.loop-event-init
loop-event-init c =
    begin c.args.file.now c.args.out.now c.requires

pub returns-in_default : goal.returns-in_default
returns-in_default c =
    done c.loop-event.invariant c.step-read.result.found (not_record c.step-read.result.found c.in_default.not-Record) c.step-read.ensures.0

pub loop-event-smaller : goal.loop-event-smaller
loop-event-smaller c =
    let found = sym (ap shown_found c.in-Record.is) ∙ c.step-read.ensures.0 in
    omega (arith, further c.loop-event.invariant found c.step-read.ensures.1)

pub loop-event-preserved : goal.loop-event-preserved
loop-event-preserved c =
    let found = sym (ap shown_found c.in-Record.is) ∙ c.step-read.ensures.0 in
    printed c.loop-event.invariant found c.step-read.ensures.1 c.put_event_line-at.ensures
