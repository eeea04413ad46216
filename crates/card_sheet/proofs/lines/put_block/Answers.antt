-- Byte by byte.
use Rattle.card_sheet.proofs.Printing.{byte_none, byte_one, byte_all}
use Rattle.card_sheet.proofs.lines.put_block.Goals as goal

pub loop-byte-init : goal.loop-byte-init
loop-byte-init c = byte_none c.args.block.now c.args.out.now c.args.at

pub loop-byte-preserved : goal.loop-byte-preserved
loop-byte-preserved c =
    byte_one c.loop-byte.invariant c.loop-byte-test.true c.put_byte-space.ensures
    (rw c.from.ensures at c.put_decimal-place.ensures)

pub returns : goal.returns
returns c =
    byte_all c.loop-byte.invariant c.loop-byte-test.false c.put_byte.ensures
