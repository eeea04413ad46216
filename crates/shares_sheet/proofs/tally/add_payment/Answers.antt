-- A refused event, one that is no charge, and one while nothing runs pay nothing; an accepted charge is added at the number that pays.
use Rattle.shares_sheet.proofs.Additions.{refused, no_charge, none_runs, pays}
use Rattle.shares_sheet.proofs.tally.add_payment.Goals as goal

pub returns-then-refusal-ne0 : goal.returns-then-refusal-ne0
returns-then-refusal-ne0 c =
    refused c.args.units.now c.args.refusal c.args.running c.args.event c.if-refusal-ne0.true

pub returns-in_default : goal.returns-in_default
returns-in_default c =
    no_charge c.args.units.now c.args.refusal c.args.running c.args.event c.if-refusal-ne0.false
    c.in_default.not-Charge

pub returns-in_default-running : goal.returns-in_default-running
returns-in_default-running c =
    none_runs c.args.units.now c.args.refusal c.args.running c.args.event c.in-Charge.charged
    c.if-refusal-ne0.false c.in_default-running.is c.in-Charge.is

-- the charge is accepted, and a timeslice runs
pub bounds-units-timeslice : goal.bounds-units-timeslice
bounds-units-timeslice c =
    (pays c.args.units.now c.in-Runs.thread c.in-Runs.timeslice c.in-Runs.count c.in-Charge.charged
    c.if-refusal-ne0.false c.in-Runs.is c.in-Charge.is c.requires).inside

pub overflow_add-units : goal.overflow_add-units
overflow_add-units c =
    record {
      fits = (pays c.args.units.now c.in-Runs.thread c.in-Runs.timeslice c.in-Runs.count c.in-Charge.charged
          c.if-refusal-ne0.false c.in-Runs.is c.in-Charge.is c.requires).fits;
    }

pub bounds-units-timeslice-2 : goal.bounds-units-timeslice-2
bounds-units-timeslice-2 c =
    (pays c.args.units.now c.in-Runs.thread c.in-Runs.timeslice c.in-Runs.count c.in-Charge.charged
    c.if-refusal-ne0.false c.in-Runs.is c.in-Charge.is c.requires).inside

pub returns : goal.returns
returns c =
    (pays c.args.units.now c.in-Runs.thread c.in-Runs.timeslice c.in-Runs.count c.in-Charge.charged
    c.if-refusal-ne0.false c.in-Runs.is c.in-Charge.is c.requires).added
