-- A refused file's line, or the lines of an accepted file, put at the front of a buffer that has room for every key.
use native.Mathlib.Omega.{arith}
use mathlib.Core.Path.{sym, ap, ◌∙◌}
use Rattle.rules.specs.Key.{file_line}
use Rattle.text.proofs.Puts.{at_front, reading}
use Rattle.text.proofs.Room.{key_fits}
use Rattle.key_sheet.proofs.Keys.{refused_key, accepted_key}
use Rattle.key_sheet.proofs.write_key.Goals as goal

pub returns-in-Err : goal.returns-in-Err
returns-in-Err c =
    let as-key = ap file_line c.from.ensures ∙ refused_key c.args.file.now c.check_file.ensures c.in-Err.is in
    let fits = key_fits c.args.file.now (λ i. (c.type_inv.file i).fits) in
    at_front (omega (arith, fits)) (reading as-key c.put_file_line.ensures)

pub returns : goal.returns
returns c =
    let as-key = accepted_key c.args.file.now (sym c.in_default.ensures) in
    let fits = key_fits c.args.file.now (λ i. (c.type_inv.file i).fits) in
    at_front (omega (arith, fits)) (reading as-key c.put_lines.ensures)
