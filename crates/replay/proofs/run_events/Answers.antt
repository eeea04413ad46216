-- One event after the other, until so many are gone or none is left.
use Prim.Native.Nat.{◌-◌, ◌+◌}
use native.Mathlib.Omega.{arith}
use mathlib.Core.Path.{◌≡◌, sym, ap, ◌∙◌}
use Rattle.event_file.specs.Answers.{shown_found}
use Rattle.event_file.proofs.Steps.{not_record}
use Rattle.replay.proofs.Turns.{links_said}
use Rattle.replay.proofs.Dispatching.{begin, onward, all_gone, ended}
use Rattle.replay.proofs.run_events.Goals as goal

pub loop-init : goal.loop-init
loop-init c =
    let all : c.args.count - 0 ≡ c.args.count = omega arith in
    rw all (begin c.args.count c.requires)

pub dispatch-requires : goal.dispatch-requires
dispatch-requires c = c.loop.invariant.sound

pub loop-preserved : goal.loop-preserved
loop-preserved c =
    let found = sym (ap shown_found c.in-Record.is) ∙ c.step-read.ensures.0 in
    rw (c.from-links.ensures, c.unwrap_or.ensures, links_said c.dispatch.result)
    (onward c.loop.invariant (λ i. (c.type_inv.file i).fits) found c.step-read.ensures.1 c.dispatch.ensures
    (c.args.count - (c.loop.counter + 1)) (omega (arith, c.loop-test.true)))

pub returns-after-loop : goal.returns-after-loop
returns-after-loop c = all_gone c.loop.invariant (omega (arith, c.loop-test.false))

pub returns-in_default : goal.returns-in_default
returns-in_default c =
    ended c.loop.invariant c.step-read.result.found (not_record _ c.in_default.not-Record) c.step-read.ensures.0
