-- Cut short, or what the file is refused for.
use mathlib.Core.Path.{sym, ap, ◌∙◌}
use Rattle.rules.specs.EventFile.{file_refusal}
use Rattle.replay.proofs.Inputs.{part_from, cut_short, whole}
use Rattle.replay.proofs.check_behind.Goals as goal

pub returns-then-input-at : goal.returns-then-input-at
returns-then-input-at c = sym (cut_short c.args.at c.args.input.now c.if-input-at.true)

pub returns : goal.returns
returns c =
    c.check_file.ensures ∙ ap file_refusal (part_from c.args.at c.args.input.now)
    ∙ sym (whole c.args.at c.args.input.now c.if-input-at.false)
