-- With the card on, the lowest of the lines that both bytes have.
use mathlib.Core.Path.{sym, ◌∙◌}
use Rattle.bridge_card.proofs.Taking.{taken_on, taken_off}
use Rattle.bridge_card.proofs.lines.line_to_take.Goals as goal

pub returns-then-has_bit : goal.returns-then-has_bit
returns-then-has_bit c =
    c.lowest_line.ensures
    ∙ taken_on c.args.block.now c.common_bits.result c.common_bits.ensures (sym c.has_bit.ensures ∙ c.if-has_bit.true)

pub returns : goal.returns
returns c = taken_off c.args.block.now (sym c.has_bit.ensures ∙ c.if-has_bit.false)
