-- The lines so far and those of the events that are left make the whole; where no event is found, none are left.
use native.Mathlib.Omega.{arith}
use Rattle.event_file.proofs.Steps.{not_record}
use Rattle.plain_sheet.proofs.Printing.{begin, printed, further, done}
use Rattle.plain_sheet.proofs.lines.put_lines.Goals as goal

pub loop-event-init : goal.loop-event-init
loop-event-init c =
    begin c.args.file.now c.args.out.now c.empty-machine.result c.empty-machine.ensures (λ i. (c.type_inv.file i).fits) c.requires

pub returns-in_default : goal.returns-in_default
returns-in_default c =
    done c.loop-event.invariant c.step-read.result.found (not_record c.step-read.result.found c.in_default.not-Record) c.step-read.ensures.0

pub overflow_add-number : goal.overflow_add-number
overflow_add-number c =
    let on = further c.loop-event.invariant c.in-Record.is c.step-read.ensures.0 c.step-read.ensures.1 c.offer-answer.ensures in
    record { fits = omega (arith, c.loop-event.invariant.few, on) }

pub loop-event-smaller : goal.loop-event-smaller
loop-event-smaller c =
    omega (arith, further c.loop-event.invariant c.in-Record.is c.step-read.ensures.0 c.step-read.ensures.1 c.offer-answer.ensures)

pub loop-event-preserved : goal.loop-event-preserved
loop-event-preserved c =
    printed c.loop-event.invariant c.in-Record.is c.step-read.ensures.0 c.step-read.ensures.1 c.offer-answer.ensures
    (rw c.number_in.ensures at c.put_line-at.ensures)
