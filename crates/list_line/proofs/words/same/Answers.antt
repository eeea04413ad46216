-- From the place reached on the words are the same as the whole words are.
use mathlib.Core.Path.{refl, sym, ◌∙◌}
use native.Mathlib.Omega.{arith}
use Rattle.list_line.proofs.Numerals.{same_next, same_not, same_over, same_lengths}
use Rattle.list_line.proofs.words.same.Goals as goal

pub loop-i-init : goal.loop-i-init
loop-i-init c = refl

pub returns-then-word-name : goal.returns-then-word-name
returns-then-word-name c = sym (same_lengths c.args.word.now c.args.name.now c.if-word-name.true)

pub returns-then-word-i : goal.returns-then-word-i
returns-then-word-i c =
    sym (same_not c.args.word.now c.args.name.now c.loop-i.i c.loop-i-test.true
    (omega (arith, c.loop-i-test.true, c.if-word-name.false)) c.if-word-i.true)
    ∙ c.loop-i.invariant

pub loop-i-preserved : goal.loop-i-preserved
loop-i-preserved c =
    sym (same_next c.args.word.now c.args.name.now c.loop-i.i c.loop-i-test.true
    (omega (arith, c.loop-i-test.true, c.if-word-name.false)) c.if-word-i.false)
    ∙ c.loop-i.invariant

pub returns : goal.returns
returns c =
    sym (same_over c.args.word.now c.args.name.now c.loop-i.i c.loop-i-test.false
    (omega (arith, c.loop-i-test.false, c.if-word-name.false)))
    ∙ c.loop-i.invariant
