-- A line for each command that is left; the last has none after it.
use Prim.Native.Nat.{◌+◌, ◌-◌}
use native.Mathlib.Omega.{arith}
use mathlib.Core.Path.{◌≡◌, refl}
use Rattle.std.proofs.Common.{rules}
use Rattle.orders_sheet.proofs.Commanding.{command_none, command_one, command_all}
use Rattle.orders_sheet.proofs.lines.put_commands.Goals as goal

pub loop-number-init : goal.loop-number-init
loop-number-init c =
    command_none c.args.input.now c.args.out.now (λ i. (c.type_inv.input i).fits) c.requires.0 c.requires.1
    c.empty-store.ensures c.empty-machine.ensures (omega (arith, c.from-number-end.ensures, c.byte_at.ensures))

pub loop-number-preserved : goal.loop-number-preserved
loop-number-preserved c =
    command_one c.loop-number.invariant (c.from-number-end.result + 1 - (c.loop-number.number + 1)) (omega (arith, c.loop-number-test.true))
    c.command_from-command.ensures c.obey-done.ensures c.number_in.ensures c.unwrap_or.ensures c.put_key_line-at.ensures

pub returns : goal.returns
returns c = command_all c.loop-number.invariant (omega (arith, c.loop-number-test.false))

pub returns-2 : goal.returns-2
returns-2 c =
    let last : c.loop-number.number ≡ c.from-number-end.result = search rules in
    command_all (command_one c.loop-number.invariant 0 (omega (arith, last))
    c.command_from-command.ensures c.obey-done.ensures c.number_in.ensures c.unwrap_or.ensures c.put_key_line-at.ensures) refl
