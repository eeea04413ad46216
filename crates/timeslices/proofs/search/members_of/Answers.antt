-- Each timeslice of the turn order is seen once; what is left to see, from what is found so far, gives the whole.
use mathlib.Core.Path.{sym}
use native.Mathlib.Nat.{sub-zero}
use native.Mathlib.Omega.{arith}
use Rattle.timeslices.proofs.Searches.{in_turn}
use Rattle.timeslices.proofs.Forward.{Seeking, seek_all, seek_next, sought_all}
use Rattle.timeslices.proofs.search.members_of.Goals as goal

pub loop-init : goal.loop-init
loop-init c = λ set e. rw (sub-zero _) (seek_all _ set _ _ _ c.entries-end.ensures)

pub loop-preserved : goal.loop-preserved
loop-preserved c = λ set e.
    in_turn (λ left. Seeking c.args.timeslices set c.args.after.now c.args.live c.seen-found.result left c.from-at.result) _ _
    (seek_next c.args.timeslices set _ _ _ _ _ _ _ _ _ _ _ (c.loop.invariant set e) (omega arith)
    c.neighbour_at-t.ensures c.from-at.ensures (sym c.entry_or-x.ensures) e c.code.ensures c.seen-found.ensures)

pub returns : goal.returns
returns c =
    sought_all c.args.timeslices c.args.set _ _ _ _ _ _ (c.loop.invariant c.args.set c.code-c.ensures)
    (omega arith) c.ended.ensures
