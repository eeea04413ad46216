-- The bytes behind the first, put at the front of a buffer with room for as many as a byte can say.
use Prim.Native.Nat.{ℕ, ◌-◌}
use native.Mathlib.Omega.{arith}
use mathlib.Core.Path.{◌≡◌, ap}
use lib.ListN.{get_or, take, drop}
use Rattle.text.proofs.Puts.{at_front, reading}
use Rattle.replay.proofs.Inputs.{not_short}
use Rattle.card_sheet.specs.Sheet.{file_at}
use Rattle.card_sheet.proofs.Inputs.{block_length}
use Rattle.card_sheet.proofs.reading.copy_block.Goals as goal

pub slice_bounds-put_bytes-end : goal.slice_bounds-put_bytes-end
slice_bounds-put_bytes-end c =
    omega (arith, c.count_at.ensures, not_short (file_at c.args.input.now) c.args.input.now c.requires.0)

pub returns : goal.returns
returns c =
    let size : c.count_at.result - 1 ≡ get_or c.args.input.now 0 0 = omega (arith, c.count_at.ensures) in
    at_front (omega (arith, c.requires.1, block_length c.args.input.now c.requires.0, (c.type_inv.input 0).fits))
    (reading (ap (λ (n : ℕ). take n (drop 1 c.args.input.now)) size) c.put_bytes.ensures)
