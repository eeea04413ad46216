-- The live entries from that one on are a part of the table; past the last there is none.
use mathlib.Core.Path.{◌∙◌, ap, sym}
use native.Mathlib.Omega.{arith}
use borrow.Author.Tests.{le-ltb}
use Rattle.rules.specs.Tests.{member as member_of}
use Rattle.tables.proofs.Lookups.{any_is, part, turns_out}
use Rattle.tables.proofs.order.listed_from.Goals as goal

pub returns-then-from-n : goal.returns-then-from-n
returns-then-from-n c =
    c.contains.ensures.value ∙ any_is c.args.t _
    ∙ ap (member_of c.args.t) (part _ _ _ _ c.well_formed.0.1.0.1 c.entries-n.ensures (omega arith))

pub returns-else-from-n : goal.returns-else-from-n
unfolding member_of
returns-else-from-n c =
    le-ltb _ _ c.if-from-n.false
    ∙ ap (member_of c.args.t) (sym (turns_out _ _ _ c.well_formed.0.1.0.1 (omega (arith, c.entries-n.ensures))))
