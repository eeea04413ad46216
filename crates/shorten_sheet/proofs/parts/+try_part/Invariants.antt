-- Each half has fewer bytes than the whole, since the event reached stands between the two ends.
use Prim.Native.Nat.{◌-◌}
use Rattle.shorten_sheet.proofs.parts.+try_part.Given as goal

-- the bytes between the two places
abbrev pub decreases-try_part : goal.decreases-try_part
decreases-try_part l = l.to - l.from
