-- Two lines for each command that is left.
use Prim.Native.Nat.{◌+◌, ◌-◌}
use Rattle.card_sheet.proofs.Commanding.{Commanding}
use Rattle.card_sheet.proofs.lines.put_commands.Given as goal

abbrev pub invariant-loop-number : goal.invariant-loop-number
invariant-loop-number l =
    Commanding l.input l.file l.initial.out l.out l.block l.machine l.offset l.place (l.number-end + 1 - l.number) l.number l.at
