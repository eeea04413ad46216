-- No timeslice passed by is the thread's own.
use mathlib.Core.Path.{sym, ap, ◌∙◌}
use Rattle.std.proofs.Common.{rules}
use Rattle.rules.specs.Timeslices.{own_of}
use Rattle.rules.specs.declared.Slice.{Slice}
use Rattle.tables.proofs.Lookups.{take-entries}
use Rattle.plain_engine.proofs.Walks.{own_here, own_later, own_none}
use Rattle.plain_engine.proofs.PlainMachine.own.Goals as goal

pub loop-t-init : goal.loop-t-init
loop-t-init c = ap (own_of c.args.self.now.slices c.args.n) (search (rules, take-entries))

pub returns-then-slice_at-n : goal.returns-then-slice_at-n
returns-then-slice_at-n c =
    let owner = ap (λ (x : Slice). x.owner) c.slice_at.ensures in
    own_here _ _ _ _ c.loop-t-test.true (sym owner ∙ c.if-slice_at-n.true) ∙ c.loop-t.invariant

pub loop-t-preserved : goal.loop-t-preserved
loop-t-preserved c =
    let owner = ap (λ (x : Slice). x.owner) c.slice_at.ensures in
    sym (own_later _ _ _ _ c.loop-t-test.true (λ e. c.if-slice_at-n.false (owner ∙ e))) ∙ c.loop-t.invariant

pub returns : goal.returns
returns c = own_none _ _ _ _ c.loop-t-test.false ∙ c.loop-t.invariant
