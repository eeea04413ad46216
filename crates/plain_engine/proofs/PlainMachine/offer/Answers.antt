-- The refusals, and then the changes and the judging in turn.
use mathlib.Core.Path.{sym, ◌∙◌}
use Rattle.std.proofs.Common.{rules}
use Rattle.plain_engine.proofs.Offering.{refused, accepted}
use Rattle.plain_engine.proofs.PlainMachine.offer.Goals as goal

pub returns-in_err-check : goal.returns-in_err-check
returns-in_err-check c =
    refused _ _ c.in_err-check.field-0.0 _ (search rules) (sym c.is_shaped.ensures ∙ c.if-not-is_shaped.false) c.in_err-check.ensures

pub returns : goal.returns
returns c =
    accepted _ _ c.update.new.self c.judge.new.self
    (record { shape = sym c.is_shaped.ensures ∙ c.if-not-is_shaped.false; accepted = sym c.in_ok-check.ensures })
    c.update.ensures c.judge.ensures
