-- A buffer with the events yet to be tried at its front and, from a later place on, those that stay. An event reached among the former cuts
-- them in two.
use Prim.Native.Nat.{ℕ, ◌+◌, ◌≤◌, ◌<◌}
use native.Mathlib.Omega.{arith}
use mathlib.Core.Path.{◌≡◌, subst}
use mathlib.Core.List.{List, ◌∷◌, ◌++◌}
use lib.ListN.{length, take}
use lib.Seq.{take-take, length-take-le}
use Rattle.rules.specs.declared.Event.{Event}
use Rattle.rules.specs.State.{State}
use Rattle.rules.specs.EventFile.{records_of}
use Rattle.rules.proofs.Files.Records.{records_length}
use Rattle.event_file.specs.Left.{events_at}
use Rattle.shorten_sheet.specs.Standing.{Stand, Apart}
use Rattle.shorten_sheet.specs.Promises.{Reaches}
use Rattle.shorten_sheet.specs.declared.reach.Reached.{Reached}
use Rattle.shorten_sheet.proofs.Standing.{stand_size, stand_front, stand_rear}

module _ {now : List ℕ} {from to at : ℕ} (a : Apart now from to at) where
  pub within : to ≤ length now
  within = omega (arith, a.order, a.rear.inside)

  pub untried_size : to ≡ from + length (records_of (events_at from (take to now)))
  untried_size = omega (arith, stand_size a.front, length-take-le to now within)

  pub untried_some : from < to → from < length (take to now)
  untried_some more = omega (arith, length-take-le to now within)

  module _ {s : State} {r : Reached} (x : Reaches (events_at from (take to now)) s from r) where
    cut_here : Stand (take to now) from (x.before ++ (x.event ∷ x.later))
    cut_here = subst (λ (l : List Event). Stand (take to now) from l) x.split a.front

    pub from_it : Stand (take to now) r.at (x.event ∷ x.later)
    from_it = stand_rear x.before (x.event ∷ x.later) cut_here x.begins

    pub reached_below : r.at < to
    reached_below = omega (arith, length-take-le to now within, stand_size from_it, records_length (x.event ∷ x.later))

    pub reached_above : from ≤ r.at
    reached_above = omega (arith, x.begins)

    pub before_it : Stand (take r.at now) from x.before
    before_it =
        subst (λ (l : List ℕ). Stand l from x.before) (take-take r.at to now (omega (arith, reached_below)))
        (stand_front x.before (x.event ∷ x.later) cut_here x.begins)
