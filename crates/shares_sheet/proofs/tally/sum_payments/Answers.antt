-- The units counted and those of the events that are left make the whole; where no event is found, all is counted.
use native.Mathlib.Omega.{arith}
use mathlib.Core.Path.{sym}
use Rattle.event_file.proofs.Steps.{not_record}
use Rattle.shares_sheet.proofs.Tallying.{begin, turned, room, sum_fits, counted, further, done}
use Rattle.shares_sheet.proofs.tally.sum_payments.Goals as goal

pub loop-event-init : goal.loop-event-init
loop-event-init c =
    begin c.args.file.now c.empty-machine.result c.empty-machine.ensures (λ i. (c.type_inv.file i).fits) c.requires

pub returns-in_default : goal.returns-in_default
returns-in_default c =
    done c.loop-event.invariant c.step-read.result.found (not_record _ c.in_default.not-Record) c.step-read.ensures.0

pub dispatch-requires : goal.dispatch-requires
dispatch-requires c = c.loop-event.invariant.ahead.sound

pub slice_bounds-add_payment-end : goal.slice_bounds-add_payment-end
slice_bounds-add_payment-end c = sym c.loop-event.invariant.size

pub add_payment-total-requires : goal.add_payment-total-requires
add_payment-total-requires c =
    rw c.number_in-refusal.ensures
    (room c.loop-event.invariant (turned c.in-Record.is c.step-read.ensures.0 c.step-read.ensures.1 c.dispatch.ensures))

pub overflow_add-total : goal.overflow_add-total
overflow_add-total c =
    record {
      fits = sum_fits c.loop-event.invariant
          (turned c.in-Record.is c.step-read.ensures.0 c.step-read.ensures.1 c.dispatch.ensures)
          (rw c.number_in-refusal.ensures at c.add_payment-total.ensures);
    }

pub loop-event-smaller : goal.loop-event-smaller
loop-event-smaller c =
    let on = further c.loop-event.invariant
    (turned c.in-Record.is c.step-read.ensures.0 c.step-read.ensures.1 c.dispatch.ensures) in
    omega (arith, on)

pub loop-event-preserved : goal.loop-event-preserved
loop-event-preserved c =
    counted c.loop-event.invariant
    (turned c.in-Record.is c.step-read.ensures.0 c.step-read.ensures.1 c.dispatch.ensures)
    (rw c.number_in-refusal.ensures at c.add_payment-total.ensures)
