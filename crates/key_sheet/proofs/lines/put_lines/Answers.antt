-- The lines so far and those of the events that are left make the whole; where no event is found, none are left.
use mathlib.Core.Path.{sym, ap, ◌∙◌}
use Rattle.event_file.specs.Answers.{shown_found}
use Rattle.event_file.proofs.Steps.{not_record}
use Rattle.replay.proofs.Turns.{links_said}
use Rattle.key_sheet.proofs.Printing.{begin, printed, further, done}
use native.Mathlib.Omega.{arith}
use Rattle.key_sheet.proofs.lines.put_lines.Goals as goal

pub loop-event-init : goal.loop-event-init
loop-event-init c =
    begin c.args.file.now c.args.out.now c.empty-machine.result c.empty-machine.ensures
    (λ i. (c.type_inv.file i).fits) c.requires

pub returns-in_default : goal.returns-in_default
returns-in_default c = done c.loop-event.invariant c.step-read.result.found (not_record _ c.in_default.not-Record) c.step-read.ensures.0

pub dispatch-answer-requires : goal.dispatch-answer-requires
dispatch-answer-requires c = c.loop-event.invariant.ahead.sound

pub overflow_add-number : goal.overflow_add-number
overflow_add-number c =
    let found = sym (ap shown_found c.in-Record.is) ∙ c.step-read.ensures.0 in
    let on = further c.loop-event.invariant found c.step-read.ensures.1 c.dispatch-answer.ensures in
    record { fits = omega (arith, c.loop-event.invariant.few, on) }

pub loop-event-smaller : goal.loop-event-smaller
loop-event-smaller c =
    let found = sym (ap shown_found c.in-Record.is) ∙ c.step-read.ensures.0 in
    omega (arith, further c.loop-event.invariant found c.step-read.ensures.1 c.dispatch-answer.ensures)

pub loop-event-preserved : goal.loop-event-preserved
loop-event-preserved c =
    let found = sym (ap shown_found c.in-Record.is) ∙ c.step-read.ensures.0 in
    let line =
    rw (c.number_in.ensures, c.from.ensures, c.unwrap_or.ensures, links_said c.dispatch-answer.result) at c.put_key_line-at.ensures in
    printed c.loop-event.invariant found c.step-read.ensures.1 c.dispatch-answer.ensures line
