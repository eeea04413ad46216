-- The record read is stored with the priority, and the timeslice, which is listed, goes to the back.
use Rattle.plain_engine.proofs.Changes.{rank_changes}
use Rattle.plain_engine.proofs.PlainMachine.update_rank.Goals as goal

pub returns : goal.returns
returns c = rank_changes _ _ _ _ _ _ c.slice_at-x.ensures c.with_entry-self.ensures c.requires c.to_back-self.ensures
