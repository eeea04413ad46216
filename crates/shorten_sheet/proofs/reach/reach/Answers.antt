-- An event is left at every turn, so a record is found. At the first one nothing may be behind it; later as much as is asked.
use native.Mathlib.Omega.{arith}
use mathlib.Core.Path.{◌≡◌, refl, sym, ap, ◌∙◌}
use Rattle.event_file.specs.Answers.{shown_found}
use Rattle.event_file.proofs.Steps.{not_record}
use Rattle.shorten_sheet.proofs.Standing.{none_stands}
use Rattle.shorten_sheet.proofs.Going.{begin, turn, onward, within, reaches, found_before_end}
use Rattle.shorten_sheet.proofs.reach.reach.Goals as goal

pub loop-event-init : goal.loop-event-init
loop-event-init c = (begin c.args.start c.requires.0 c.requires.1, c.requires.2, λ _. refl)

pub returns-in_default : goal.returns-in_default
returns-in_default c =
    found_before_end c.loop-event.invariant.0.stands c.loop-event.invariant.1
    (none_stands c.loop-event.invariant.0.stands c.step-read.result.found (not_record _ c.in_default.not-Record) c.step-read.ensures.0)

pub overflow_sub-file : goal.overflow_sub-file
overflow_sub-file c =
    within c.loop-event.invariant.0 (sym (ap shown_found c.in-Record.is) ∙ c.step-read.ensures.0) c.step-read.ensures.1

pub returns-then-file-read : goal.returns-then-file-read
returns-then-file-read c =
    reaches c.loop-event.invariant.0 (sym (ap shown_found c.in-Record.is) ∙ c.step-read.ensures.0) c.step-read.ensures.1 _
    c.if-file-read.true c.loop-event.invariant.2

pub dispatch-requires : goal.dispatch-requires
dispatch-requires c = c.loop-event.invariant.0.sound

pub loop-event-smaller : goal.loop-event-smaller
loop-event-smaller c =
    let o = onward c.loop-event.invariant.0
    (turn _ (λ i. (c.type_inv.file i).fits) c.in-Record.is c.step-read.ensures.0 c.step-read.ensures.1 c.dispatch.ensures) in
    omega (arith, o.ends, o.next.stands.inside)

pub loop-event-preserved : goal.loop-event-preserved
loop-event-preserved c =
    let o = onward c.loop-event.invariant.0
    (turn _ (λ i. (c.type_inv.file i).fits) c.in-Record.is c.step-read.ensures.0 c.step-read.ensures.1 c.dispatch.ensures) in
    (o.next, omega (arith, c.if-file-read.false), λ q. absurd (omega (arith, q, o.ends, c.loop-event.invariant.0.place)))
