-- A refusal's line, or the chain and the causes, put at the front of a buffer that has room for every reason. Lending the array as a slice
-- brings its length.
use native.Mathlib.Omega.{arith}
use mathlib.Core.Path.{◌≡◌, sym, ap, ◌∙◌}
use Rattle.std.proofs.Common.{rules, None}
use Rattle.std.specs.Prelude.{is_some}
use Rattle.rules.specs.Key.{file_line}
use Rattle.text.proofs.Puts.{at_front, reading, ◌then◌}
use Rattle.text.proofs.ReasonRoom.{reason_fits}
use Rattle.reason_sheet.proofs.Reasons.{whole_file, short, refused_file, no_event, that_event}
use Rattle.reason_sheet.proofs.write_reason.Goals as goal

pub returns-then-input-lt4 : goal.returns-then-input-lt4
returns-then-input-lt4 c =
    let fits = reason_fits c.args.input.now (λ i. (c.type_inv.input i).fits) in
    at_front (omega (arith, fits))
    (reading (short c.args.input.now c.if-input-lt4.true) c.put_file_line.ensures)

pub returns-in-Err : goal.returns-in-Err
returns-in-Err c =
    let fits = reason_fits c.args.input.now (λ i. (c.type_inv.input i).fits) in
    at_front (omega (arith, fits))
    (reading
    (ap file_line c.from.ensures
    ∙ refused_file c.args.input.now c.if-input-lt4.false (whole_file c.args.input.now) c.check_file.ensures c.in-Err.is)
    c.put_file_line-in-Err.ensures)

pub returns-in_default-reach : goal.returns-in_default-reach
returns-in_default-reach c =
    let fits = reason_fits c.args.input.now (λ i. (c.type_inv.input i).fits) in
    let none : c.reach.result ≡ None = search rules in
    at_front (omega (arith, fits))
    (reading
    (ap file_line c.from-in_default-reach.ensures
    ∙ no_event c.args.input.now c.if-input-lt4.false (whole_file c.args.input.now) (sym c.in_default.ensures)
    c.length_field-number.ensures.value
    (sym c.reach.ensures.found ∙ ap is_some none))
    c.put_file_line-in_default-reach.ensures)

pub returns : goal.returns
returns c =
    let fits = reason_fits c.args.input.now (λ i. (c.type_inv.input i).fits) in
    at_front (omega (arith, fits))
    (reading
    (that_event c.args.input.now c.if-input-lt4.false (whole_file c.args.input.now) (sym c.in_default.ensures)
    c.length_field-number.ensures.value
    (sym c.reach.ensures.found ∙ ap is_some c.in-Some.is) _ (c.reach.ensures.machine _ c.in-Some.is))
    (c.put_chain_line-next.ensures then c.put_causes.ensures))
