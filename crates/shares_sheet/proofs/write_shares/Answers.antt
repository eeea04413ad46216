-- A refused file's line, or the lines of an accepted file, put at the front of a buffer that has room for every file's shares.
use native.Mathlib.Omega.{arith}
use mathlib.Core.Path.{sym, ap, ◌∙◌}
use Rattle.rules.specs.EventFile.{Bytes}
use Rattle.rules.specs.Key.{file_line}
use Rattle.text.proofs.Puts.{at_front, reading}
use Rattle.text.proofs.ShareRoom.{shares_fit}
use Rattle.shares_sheet.proofs.Sheet.{refused_shares, within, accepted_shares}
use Rattle.shares_sheet.proofs.write_shares.Goals as goal

pub returns-in-Err : goal.returns-in-Err
returns-in-Err c =
    let as-shares = ap file_line c.from.ensures ∙ refused_shares c.args.file.now c.check_file.ensures c.in-Err.is in
    let fits = shares_fit c.args.file.now (λ i. (c.type_inv.file i).fits) in
    at_front (omega (arith, fits)) (reading as-shares c.put_file_line.ensures)

pub put_shares-requires : goal.put_shares-requires
put_shares-requires c =
    within c.args.file.now (λ i. (c.type_inv.file i).fits) (sym c.in_default.ensures) c.sum_payments.ensures

pub returns : goal.returns
returns c =
    let narrow : Bytes c.args.file.now = λ i. (c.type_inv.file i).fits in
    at_front (omega (arith, shares_fit c.args.file.now narrow))
    (reading (accepted_shares c.args.file.now narrow (sym c.in_default.ensures) c.sum_payments.ensures) c.put_shares.ensures)
