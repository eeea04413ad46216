-- A refused input's line, or the lines of an accepted input, put at the front of a buffer that has room for every input's.
use Prim.Native.Nat.{ℕ}
use native.Mathlib.Omega.{arith}
use mathlib.Core.Path.{◌≡◌, sym, ap, ◌∙◌}
use mathlib.Core.List.{List}
use lib.ListN.{drop}
use Rattle.rules.specs.Key.{file_line}
use Rattle.replay.specs.Behind.{refusal_behind}
use Rattle.replay.proofs.Inputs.{part_from, not_short}
use Rattle.text.proofs.Puts.{at_front, reading}
use Rattle.orders_sheet.specs.Sheet.{file_at, input_refusal}
use Rattle.orders_sheet.proofs.Inputs.{refused_orders, accepted_orders}
use Rattle.orders_sheet.proofs.Room.{orders_fit}
use Rattle.orders_sheet.proofs.write_orders.Goals as goal

-- the place that was found is the file's
found : (input : List ℕ) {at n : ℕ} → at ≡ file_at input → n ≡ refusal_behind at input → n ≡ input_refusal input
found input is asked = asked ∙ ap (λ (at : ℕ). refusal_behind at input) is

pub returns-in-Err : goal.returns-in-Err
returns-in-Err c =
    let b = c.args.input.now in
    let fits = orders_fit b (λ i. (c.type_inv.input i).fits) in
    let line = ap file_line c.from.ensures ∙ refused_orders b (found b c.file_at-at.ensures c.check_behind.ensures) c.in-Err.is in
    at_front (omega (arith, fits)) (reading line c.put_file_line.ensures)

pub slice_bounds-put_commands-start : goal.slice_bounds-put_commands-start
slice_bounds-put_commands-start c =
    omega (arith, not_short c.file_at-at.result c.args.input.now (sym c.in_default.ensures))

pub slice_bounds-put_commands-count : goal.slice_bounds-put_commands-count
slice_bounds-put_commands-count c =
    omega (arith, not_short c.file_at-at.result c.args.input.now (sym c.in_default.ensures))

pub put_commands-requires : goal.put_commands-requires
put_commands-requires c = (
  sym (found c.args.input.now c.file_at-at.ensures c.in_default.ensures),
  part_from c.file_at-at.result c.args.input.now ∙ ap (λ (at : ℕ). drop at c.args.input.now) c.file_at-at.ensures,
)

pub returns : goal.returns
returns c =
    let b = c.args.input.now in
    let fits = orders_fit b (λ i. (c.type_inv.input i).fits) in
    at_front (omega (arith, fits))
    (reading (accepted_orders b (sym (found b c.file_at-at.ensures c.in_default.ensures))) c.put_commands.ensures)
