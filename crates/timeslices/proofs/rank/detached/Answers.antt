-- The place that is read decides: followers are released, the timeslice moves to Queue, or nothing changes.
use Rattle.timeslices.proofs.Detaching.{replaced, by_place}
use Rattle.timeslices.proofs.rank.detached.Goals as goal

pub returns-in-Queue : goal.returns-in-Queue
returns-in-Queue c =
    by_place _ _ _ _ _ _ c.timeslice_at-x.ensures c.in-Queue.is c.release.ensures

pub returns-in-Behind : goal.returns-in-Behind
returns-in-Behind c =
    by_place _ _ _ _ _ _ c.timeslice_at-x.ensures c.in-Behind.is
    (rw c.with_entry.ensures (replaced _ _ _ _ c.timeslice_at-x.ensures))
