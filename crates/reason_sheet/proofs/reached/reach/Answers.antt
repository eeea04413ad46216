-- The events that are left lead to the machine asked for; where none is found, or none was asked for, there is no such event.
use Prim.Native.Nat.{suc, ◌-◌, ◌+◌}
use native.Mathlib.Omega.{arith}
use mathlib.Core.Path.{◌≡◌, refl, sym, ap, ◌∙◌}
use Rattle.std.specs.Prelude.{is_some}
use Rattle.rules.proofs.Basics.Views.{clash}
use Rattle.event_file.specs.Answers.{shown_found}
use Rattle.event_file.proofs.Steps.{not_record}
use Rattle.reason_sheet.proofs.Replaying.{begin, dispatched, none_there, there, asked_for, arrived}
use Rattle.reason_sheet.proofs.reached.reach.Goals as goal

pub loop-init : goal.loop-init
loop-init c =
    let all : c.args.number - 0 ≡ c.args.number = omega arith in
    rw all (begin c.args.file.now c.args.number c.empty-machine.result c.empty-machine.ensures (λ i. (c.type_inv.file i).fits) c.requires)

pub returns-in_default : goal.returns-in_default
returns-in_default c =
    record {
      found =
          none_there c.loop.invariant c.step-read.result.found (not_record _ c.in_default.not-Record) c.step-read.ensures.0
          (omega (arith, c.loop-test.true));
      machine = λ m e. clash _ (ap is_some e) refl;
    }

pub dispatch-requires : goal.dispatch-requires
dispatch-requires c = c.loop.invariant.ahead.sound

pub loop-preserved : goal.loop-preserved
loop-preserved c =
    let found = sym (ap shown_found c.in-Record.is) ∙ c.step-read.ensures.0 in
    dispatched c.loop.invariant found c.step-read.ensures.1 c.dispatch.ensures (c.args.number - (c.loop.counter + 1))
    (omega (arith, c.loop-test.true))

pub returns : goal.returns
returns c =
    let none_left : c.args.number - c.loop.counter ≡ 0 = omega (arith, c.loop-test.false) in
    arrived c.args.file.now c.args.number _ c.loop.machine c.then_some.ensures (asked_for c.loop.invariant none_left)
    (there c.loop.invariant none_left)
