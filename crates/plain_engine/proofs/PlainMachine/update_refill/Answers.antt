-- The record read is stored with its whole quantum left.
use Rattle.plain_engine.proofs.Changes.{refill_changes}
use Rattle.plain_engine.proofs.PlainMachine.update_refill.Goals as goal

pub returns : goal.returns
returns c = refill_changes _ _ _ _ c.slice_at-x.ensures c.with_entry-self.ensures
