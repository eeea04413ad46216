-- No entry passed by stands again later.
use mathlib.Core.Path.{◌≡◌}
use native.Mathlib.Numerals.{add-one}
use native.Mathlib.Omega.{arith}
use lib.ListN.{length}
use Rattle.soundness.proofs.Loops.{once_more, twice, all_once}
use Rattle.soundness.proofs.turn_order.listed_once.Goals as goal

pub returns-then-listed_from : goal.returns-then-listed_from
returns-then-listed_from c =
    let full : length c.args.order ≡ 128 = omega arith in
    let later = rw add-one at c.listed_from.ensures in
    twice _ _ _ _ full c.loop-i.invariant _ c.loop-i-test.true later c.if-listed_from.true

pub loop-i-preserved : goal.loop-i-preserved
loop-i-preserved c =
    let full : length c.args.order ≡ 128 = omega arith in
    let later = rw add-one at c.listed_from.ensures in
    once_more _ _ _ _ full c.loop-i.invariant _ c.loop-i-test.true later c.if-listed_from.false

pub returns : goal.returns
returns c =
    let full : length c.args.order ≡ 128 = omega arith in
    all_once _ _ _ _ full c.loop-i.invariant c.loop-i-test.false
