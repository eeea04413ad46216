-- What is left falls by the charge; at 0 the timeslice, which is listed, goes to the back.
use Rattle.plain_engine.proofs.Changes.{charge_spends, charge_depletes}
use Rattle.plain_engine.proofs.PlainMachine.update_charge.Goals as goal

pub returns-then-y-eq0 : goal.returns-then-y-eq0
returns-then-y-eq0 c =
    charge_depletes _ _ _ _ c.in-Runs.is _ c.requires _ c.slice_at-x.ensures _ c.with_entry-self.ensures _
    c.if-y-eq0.true c.to_back-self.ensures

pub returns-else-y-eq0 : goal.returns-else-y-eq0
returns-else-y-eq0 c =
    charge_spends _ _ _ _ c.in-Runs.is _ c.requires _ c.slice_at-x.ensures _ c.with_entry-self.ensures c.if-y-eq0.false
