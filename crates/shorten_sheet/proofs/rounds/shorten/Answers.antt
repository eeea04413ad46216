-- Round after round, until a pass leaves out none.
use native.Mathlib.Omega.{arith}
use mathlib.Core.Path.{◌≡◌, sym, ap, ◌∙◌}
use mathlib.Core.Bool.{false}
use Rattle.std.proofs.Common.{rules}
use Rattle.std.specs.Prelude.{is_some}
use Rattle.rules.proofs.Basics.Views.{clash}
use lib.Seq.{length-take-le}
use Rattle.dispatcher.specs.Shown.{sound_machine}
use Rattle.dispatcher.proofs.Runs.{empty_machine_sound}
use Rattle.shorten_sheet.proofs.Shortening.{all_events, round_read, part_inside, is_found, round_apart, done}
use Rattle.shorten_sheet.proofs.rounds.shorten.Goals as goal

pub loop-asked-init : goal.loop-asked-init
loop-asked-init c = all_events c.requires.0 c.requires.1

pub slice_bounds-ask-end : goal.slice_bounds-ask-end
slice_bounds-ask-end c = c.loop-asked.invariant.within

pub ask-requires : goal.ask-requires
ask-requires c = (round_read c.loop-asked.invariant, ap sound_machine c.empty.ensures ∙ empty_machine_sound)

pub slice_bounds-try_part-end : goal.slice_bounds-try_part-end
slice_bounds-try_part-end c = part_inside c.loop-asked.invariant c.empty.ensures c.ask.ensures c.in-Some.is

pub slice_bounds-try_part-end-in-loop-asked : goal.slice_bounds-try_part-end-in-loop-asked
slice_bounds-try_part-end-in-loop-asked c =
    sym (length-take-le _ _ (part_inside c.loop-asked.invariant c.empty.ensures c.ask.ensures c.in-Some.is))

pub try_part-first-requires : goal.try_part-first-requires
try_part-first-requires c = (
  round_apart c.loop-asked.invariant c.empty.ensures c.ask.ensures c.in-Some.is,
  ap sound_machine c.empty-in-loop-asked.ensures ∙ empty_machine_sound,
)

pub returns-then-first-from : goal.returns-then-first-from
returns-then-first-from c =
    let round = done c.loop-asked.invariant c.empty.ensures c.ask.ensures c.in-Some.is c.empty-in-loop-asked.ensures
    c.try_part-first.ensures in
    round.last c.if-first-from.true

pub loop-asked-smaller : goal.loop-asked-smaller
loop-asked-smaller c =
    let round = done c.loop-asked.invariant c.empty.ensures c.ask.ensures c.in-Some.is c.empty-in-loop-asked.ensures
    c.try_part-first.ensures in
    omega (arith, c.if-first-from.false, round.cut, round.inside)

pub loop-asked-preserved : goal.loop-asked-preserved
loop-asked-preserved c =
    let round = done c.loop-asked.invariant c.empty.ensures c.ask.ensures c.in-Some.is c.empty-in-loop-asked.ensures
    c.try_part-first.ensures in
    round.again

pub unreachable-requires : goal.unreachable-requires
unreachable-requires c =
    let none : is_some c.ask.result ≡ false = search rules in
    clash (is_some c.ask.result) (is_found c.loop-asked.invariant c.empty.ensures c.ask.ensures) none
