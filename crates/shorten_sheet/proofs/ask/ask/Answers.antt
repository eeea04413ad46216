-- Of the events gone none is refused with the number; the first that is ends the run.
use native.Mathlib.Omega.{arith}
use mathlib.Core.Path.{sym, ap, ◌∙◌}
use Rattle.event_file.specs.Answers.{shown_found}
use Rattle.event_file.proofs.Steps.{not_record}
use Rattle.shorten_sheet.proofs.Going.{turn, onward}
use Rattle.shorten_sheet.proofs.Asking.{asking, none_asked, asked_here, asked_on}
use Rattle.shorten_sheet.proofs.ask.ask.Goals as goal

pub loop-event-init : goal.loop-event-init
loop-event-init c =
    asking c.args.number c.args.start c.requires.0 c.requires.1

pub returns-in_default : goal.returns-in_default
returns-in_default c =
    none_asked c.loop-event.invariant c.step-read.result.found (not_record _ c.in_default.not-Record) c.step-read.ensures.0

pub dispatch-requires : goal.dispatch-requires
dispatch-requires c = c.loop-event.invariant.along.sound

pub returns-then-is_asked : goal.returns-then-is_asked
returns-then-is_asked c =
    asked_here c.loop-event.invariant
    (turn _ (λ i. (c.type_inv.file i).fits) c.in-Record.is c.step-read.ensures.0 c.step-read.ensures.1 c.dispatch.ensures)
    (sym (rw c.number_in-refusal.ensures at c.is_asked.ensures) ∙ c.if-is_asked.true)

pub loop-event-smaller : goal.loop-event-smaller
loop-event-smaller c =
    let o = onward c.loop-event.invariant.along
    (turn _ (λ i. (c.type_inv.file i).fits) c.in-Record.is c.step-read.ensures.0 c.step-read.ensures.1 c.dispatch.ensures) in
    omega (arith, o.ends, o.next.stands.inside)

pub loop-event-preserved : goal.loop-event-preserved
loop-event-preserved c =
    asked_on c.loop-event.invariant
    (turn _ (λ i. (c.type_inv.file i).fits) c.in-Record.is c.step-read.ensures.0 c.step-read.ensures.1 c.dispatch.ensures)
    (sym (rw c.number_in-refusal.ensures at c.is_asked.ensures) ∙ c.if-is_asked.false)
