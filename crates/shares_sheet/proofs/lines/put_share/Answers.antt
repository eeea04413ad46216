-- Three columns, the remainder and the line feed, one after the other.
use mathlib.Core.List.{append_assoc}
use Rattle.rules.specs.Key.{bytes}
use Rattle.rules.specs.Shares.{share_line}
use Rattle.text.proofs.Puts.{◌then◌, reading}
use Rattle.shares_sheet.proofs.lines.put_share.Goals as goal

pub returns : goal.returns
unfolding share_line bytes
returns c =
    reading (simp append_assoc)
    (c.put_column-second.ensures then c.put_column-third.ensures then c.put_column-last.ensures then c.put_decimal-end.ensures
    then c.put_byte.ensures)
