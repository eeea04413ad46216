-- The first of the turn order whose timeslice has this owner decides; past the end of the table the owner is 0.
use mathlib.Core.Path.{refl, sym, ◌∙◌, ap}
use native.Mathlib.Omega.{arith}
use borrow.Author.Tests.{eq-eqb, ne_eqb}
use Rattle.rules.specs.declared.Timeslice.{Timeslice}
use Rattle.rules.specs.Timeslices.{own_of}
use Rattle.tables.proofs.Lookups.{owns}
use Rattle.neighbours.proofs.Stepping.{here_for, next_for, out}
use Rattle.timeslices.proofs.search.own.Goals as goal

pub returns-then-entry_or-n : goal.returns-then-entry_or-n
unfolding own_of
returns-then-entry_or-n c =
    let o = owns c.args.timeslices _ _ _ c.from.ensures (ap (λ (x : Timeslice). x.owner) c.entry_or.ensures) in
    rw (eq-eqb _ _ (sym o ∙ c.if-entry_or-n.true)) at
    (here_for _ _ _ _ _ _ _ c.loop.invariant (omega arith) c.neighbour-at.ensures)

pub loop-preserved : goal.loop-preserved
unfolding own_of
loop-preserved c =
    let o = owns c.args.timeslices _ _ _ c.from.ensures (ap (λ (x : Timeslice). x.owner) c.entry_or.ensures) in
    next_for _ _ _ _ _ _ _ c.loop.invariant (omega arith) c.neighbour-at.ensures
    (rw (ne_eqb _ _ (λ e. c.if-entry_or-n.false (o ∙ e))) refl)

pub returns : goal.returns
unfolding own_of
returns c = out _ _ _ _ _ c.loop.invariant (omega arith)
