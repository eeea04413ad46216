-- A refused input's line, or the lines of an accepted input, put at the front of a buffer that has room for every input's. The block is the
-- front of its store.
use Prim.Native.Nat.{ℕ}
use native.Mathlib.Omega.{arith}
use mathlib.Core.Path.{sym, ap, ◌∙◌}
use lib.ListN.{take, drop}
use lib.Seq.{take_at}
use Rattle.rules.specs.Key.{file_line}
use Rattle.text.proofs.Puts.{at_front, reading}
use Rattle.replay.proofs.Inputs.{part_from, not_short}
use Rattle.card_sheet.specs.Sheet.{block_in, file_at}
use Rattle.card_sheet.proofs.Inputs.{refused_card, accepted_card}
use Rattle.card_sheet.proofs.Room.{card_fits}
use Rattle.card_sheet.proofs.write_card.Goals as goal

pub returns-in-Err : goal.returns-in-Err
returns-in-Err c =
    let line = ap file_line c.from.ensures ∙ refused_card c.args.input.now c.check_input.ensures c.in-Err.is in
    let fits = card_fits c.args.input.now (λ i. (c.type_inv.input i).fits) in
    at_front (omega (arith, fits)) (reading line c.put_file_line.ensures)

pub slice_bounds-put_commands-count : goal.slice_bounds-put_commands-count
slice_bounds-put_commands-count c =
    omega (arith, c.file_at-at.ensures, not_short (file_at c.args.input.now) c.args.input.now (sym c.in_default.ensures))

pub slice_bounds-put_commands-start : goal.slice_bounds-put_commands-start
slice_bounds-put_commands-start c =
    omega (arith, c.file_at-at.ensures, not_short (file_at c.args.input.now) c.args.input.now (sym c.in_default.ensures))

pub put_commands-requires : goal.put_commands-requires
put_commands-requires c = (
  sym c.in_default.ensures,
  part_from c.file_at-at.result c.args.input.now ∙ ap (λ (at : ℕ). drop at c.args.input.now) c.file_at-at.ensures,
  ap (take c.copy_block-n.result) c.copy_block-n.ensures.1
      ∙ take_at (block_in c.args.input.now) _ c.copy_block-n.result (sym c.copy_block-n.ensures.0),
)

pub returns : goal.returns
returns c =
    let fits = card_fits c.args.input.now (λ i. (c.type_inv.input i).fits) in
    at_front (omega (arith, fits)) (reading (accepted_card c.args.input.now (sym c.in_default.ensures)) c.put_commands.ensures)
