-- Byte by byte.
use Rattle.card_sheet.proofs.Printing.{Bytewise}
use Rattle.card_sheet.proofs.lines.put_block.Given as goal

abbrev pub invariant-loop-byte : goal.invariant-loop-byte
invariant-loop-byte l = Bytewise l.block l.initial.out l.out l.at l.place l.byte-index
