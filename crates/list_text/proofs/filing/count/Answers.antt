-- By its length, or line by line.
use mathlib.Core.Path.{sym, ap, ◌∙◌}
use Rattle.list_text.specs.Counting.{counted}
use Rattle.list_text.proofs.Counting.{first_part, first_part_small, too_long_text, short_text}
use Rattle.list_text.proofs.filing.count.Goals as goal

pub slice_bounds-line_after-end : goal.slice_bounds-line_after-end
slice_bounds-line_after-end c = sym (first_part c.args.text.now c.if-text-gt1048576.true)

pub line_after-line-requires : goal.line_after-line-requires
line_after-line-requires c = first_part_small c.args.text.now c.if-text-gt1048576.true

pub returns-then-text-gt1048576 : goal.returns-then-text-gt1048576
returns-then-text-gt1048576 c =
    too_long_text c.args.text.now _ c.if-text-gt1048576.true c.line_after-line.ensures

pub count_lines-requires : goal.count_lines-requires
count_lines-requires c = c.if-text-gt1048576.false

pub returns : goal.returns
returns c = c.count_lines.ensures ∙ ap (counted 5) (short_text c.args.text.now c.if-text-gt1048576.false)
