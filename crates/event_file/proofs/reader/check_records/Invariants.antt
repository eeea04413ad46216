-- `check_records`: what is left to read decides as the whole does; a turn that keeps its offset has found no good record.
use Rattle.rules.specs.EventFile.{events_after, records_in, is_none}
use lib.ListN.{length, drop}
use Prim.Native.Nat.{◌-◌}
use mathlib.Core.Path.{◌≡◌}
use Rattle.event_file.proofs.reader.check_records.Given as goal

abbrev pub invariant-loop-at : goal.invariant-loop-at
invariant-loop-at l = is_none (events_after 0 (drop l.at l.file)) ≡ is_none (records_in l.file)

abbrev pub decreases-loop-at : goal.decreases-loop-at
decreases-loop-at l = length l.file - l.at
