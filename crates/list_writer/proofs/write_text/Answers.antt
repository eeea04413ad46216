-- A refused file's line, or the lines of an accepted file, put at the front of a buffer that has room for every text.
use native.Mathlib.Omega.{arith}
use mathlib.Core.Path.{sym, ap, ◌∙◌}
use Rattle.rules.specs.Key.{file_line}
use Rattle.text.proofs.Puts.{at_front, reading}
use Rattle.list_writer.proofs.Room.{text_fits}
use Rattle.list_writer.proofs.Texts.{refused_text, accepted_text}
use Rattle.list_writer.proofs.write_text.Goals as goal

pub returns-in-Err : goal.returns-in-Err
returns-in-Err c =
    let as-text = ap file_line c.from.ensures ∙ refused_text c.args.file.now c.check_file.ensures c.in-Err.is in
    let fits = text_fits c.args.file.now (λ i. (c.type_inv.file i).fits) in
    at_front (omega (arith, fits)) (reading as-text c.put_file_line.ensures)

pub returns : goal.returns
returns c =
    let as-text = accepted_text c.args.file.now (sym c.in_default.ensures) in
    let fits = text_fits c.args.file.now (λ i. (c.type_inv.file i).fits) in
    at_front (omega (arith, fits)) (reading as-text c.put_events.ensures)
