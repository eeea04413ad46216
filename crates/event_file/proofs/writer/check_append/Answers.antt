-- `check_append`: what is filled is an accepted file, which has its first five bytes.
use mathlib.Core.Path.{ap, sym, ◌∙◌}
use native.Mathlib.Omega.{arith}
use lib.Seq.{length-take-le}
use Rattle.rules.specs.RefusalNumbers.{number_in}
use Rattle.rules.proofs.Files.Accepting.{accepted}
use Rattle.event_file.proofs.writer.check_append.Goals as goal

pub returns-clause-begun : goal.returns-clause-begun
returns-clause-begun c =
    let five = (accepted _ (sym c.check_file.ensures ∙ ap number_in c.in_ok-check_file.was)).head.five in
    omega (arith, five, length-take-le c.args.filled c.args.buffer.now c.if-buffer-filled.false)
