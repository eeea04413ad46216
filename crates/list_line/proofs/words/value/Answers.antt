-- The bytes so far are digits, and with those that are left they make the whole number.
use mathlib.Core.Path.{sym, ◌∙◌}
use native.Mathlib.Omega.{arith}
use Rattle.list_line.proofs.Numerals.{none_read, digit_read, no_digit, all_read}
use Rattle.list_line.proofs.words.value.Goals as goal

pub loop-b-init : goal.loop-b-init
loop-b-init c = none_read c.args.word.now

pub returns-then-not-is_ascii_digit : goal.returns-then-not-is_ascii_digit
returns-then-not-is_ascii_digit c =
    no_digit c.loop-b.invariant c.loop-b-test.true (sym c.is_ascii_digit.ensures.value ∙ c.if-not-is_ascii_digit.true)

pub loop-b-preserved : goal.loop-b-preserved
loop-b-preserved c =
    digit_read c.loop-b.invariant c.loop-b-test.true (sym c.is_ascii_digit.ensures.value ∙ c.if-not-is_ascii_digit.false)
    (omega (arith, c.min-n.ensures, c.from.ensures))

pub returns : goal.returns
returns c = all_read c.loop-b.invariant c.loop-b-test.false
