-- A refused input's line, or the lines of an accepted input, put at the front of a buffer that has room for every input's. Lending the
-- array as a slice brings its length.
use native.Mathlib.Omega.{arith}
use mathlib.Core.Path.{sym}
use Rattle.text.proofs.Puts.{at_front, reading}
use Rattle.ranking_sheet.proofs.Inputs.{refused_ranking, accepted_ranking}
use Rattle.ranking_sheet.proofs.Room.{ranking_fits}
use Rattle.ranking_sheet.proofs.write_ranking.Goals as goal

pub returns-in-Err : goal.returns-in-Err
returns-in-Err c =
    let fits = ranking_fits c.args.input.now (λ i. (c.type_inv.input i).fits) in
    at_front (omega (arith, fits))
    (reading (refused_ranking c.args.input.now c.in-Err.refusal _ c.from.ensures c.in-Err.ensures) c.put_file_line.ensures)

pub returns : goal.returns
returns c =
    let fits = ranking_fits c.args.input.now (λ i. (c.type_inv.input i).fits) in
    at_front (omega (arith, fits))
    (reading (accepted_ranking c.args.input.now (sym c.in_default.ensures) c.read_table.ensures) c.put_answers.ensures)
