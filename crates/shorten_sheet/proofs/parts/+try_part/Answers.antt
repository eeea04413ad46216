-- Each half has fewer bytes than the whole, since the event reached stands between the two ends.
use native.Mathlib.Omega.{arith}
use mathlib.Core.Path.{sym, ◌∙◌}
use Rattle.dispatcher.specs.Shown.{shown}
use Rattle.shorten_sheet.proofs.Halves.{within, untried_some, reached_below}
use Rattle.shorten_sheet.proofs.Trying.{none_tried, left_out, stays, second_apart, first_apart, halves_keep}
use Rattle.shorten_sheet.proofs.parts.+try_part.Goals as goal

-- nothing to try
pub returns-then-to-from : goal.returns-then-to-from
returns-then-to-from t c = none_tried c.args.number (shown c.args.start) c.requires.0 c.if-to-from.true

pub slice_bounds-reach-end : goal.slice_bounds-reach-end
slice_bounds-reach-end t c = within c.requires.0

pub reach-half-requires : goal.reach-half-requires
reach-half-requires t c = (c.requires.0.front, c.requires.1, untried_some c.requires.0 c.if-to-from.false)

-- the second half
pub try_part-kept-requires : goal.try_part-kept-requires
try_part-kept-requires t c =
    let x = c.reach-half.ensures in (
      omega (arith, c.if-from-middle.true, reached_below c.requires.0 x),
      (second_apart c.args.number (shown c.args.start) c.requires.0 x, x.sound),
    )

-- the first half
pub try_part-requires : goal.try_part-requires
try_part-requires t c =
    let x = c.reach-half.ensures in (
      omega (arith, c.if-from-middle.true, reached_below c.requires.0 x),
      (first_apart c.args.number (shown c.args.start) c.requires.0 x c.try_part-kept.ensures, c.requires.1),
    )

pub returns-then-from-middle : goal.returns-then-from-middle
returns-then-from-middle t c =
    halves_keep c.args.number (shown c.args.start) c.requires.0 c.reach-half.ensures c.try_part-kept.ensures c.try_part.ensures

pub ask-requires : goal.ask-requires
ask-requires t c = (c.requires.0.rear, c.requires.1)

-- the event is left out
pub returns-then-is_some : goal.returns-then-is_some
returns-then-is_some t c =
    left_out c.args.number (shown c.args.start) c.requires.0 c.reach-half.ensures c.if-from-middle.false
    (sym c.ask.ensures.found ∙ sym c.is_some.ensures ∙ c.if-is_some.true)

pub move_up-requires : goal.move_up-requires
move_up-requires t c = (omega (arith, c.if-to-from.false), c.requires.0.order, c.requires.0.rear.inside)

-- it stays
pub returns : goal.returns
returns t c =
    stays c.args.number (shown c.args.start) c.requires.0 c.reach-half.ensures c.if-from-middle.false
    (sym c.ask.ensures.found ∙ sym c.is_some.ensures ∙ c.if-is_some.false) c.move_up.ensures
