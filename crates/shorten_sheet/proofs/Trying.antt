-- A part of the events, tried: one event is left out or moved to those that stay; of several the second half is tried first, and then the
-- first.
use Prim.Native.Nat.{ℕ, ◌≤◌}
use native.Mathlib.Omega.{arith}
use mathlib.Core.Path.{◌≡◌, refl, sym, ap, ap₂, ◌∙◌, subst}
use mathlib.Core.List.{List, [], ◌∷◌, ◌++◌, reverse}
use mathlib.Core.Bool.{Bool, true, false, cond}
use lib.ListN.{take}
use lib.Seq.{take-take}
use Rattle.rules.specs.declared.Event.{Event}
use Rattle.rules.specs.State.{State}
use Rattle.rules.specs.Lists.{after}
use Rattle.rules.specs.EventFile.{records_of}
use Rattle.rules.specs.Shorten.{refused_from}
use Rattle.rules.proofs.Files.Appending.{records_of_append}
use Rattle.dispatcher.specs.Shown.{shown}
use Rattle.event_file.specs.Left.{events_at}
use Rattle.shorten_sheet.specs.Standing.{Stand, Apart}
use Rattle.shorten_sheet.specs.Promises.{Reaches, Moved, Keeps, tried_from}
use Rattle.shorten_sheet.specs.declared.reach.Reached.{Reached}
use Rattle.shorten_sheet.proofs.Standing.{no_events, events_at_lem, stand_read}
use Rattle.shorten_sheet.proofs.Tries.{halves_tried}
use Rattle.shorten_sheet.proofs.Halves.{untried_size, reached_above, before_it, from_it}

module _ (k : ℕ) (s : State) {now : List ℕ} {from to at : ℕ} (a : Apart now from to at) where
  abbrev untried : List Event
  untried = events_at from (take to now)

  abbrev stay : List Event
  stay = events_at at now

  -- none is left to try
  pub none_tried : to ≤ from → Keeps now now from at (tried_from k s (reverse untried) stay)
  unfolding tried_from
  none_tried done =
      let none : untried ≡ [] = no_events untried (omega (arith, untried_size a)) in
      record {
        size = refl;
        front = refl;
        above = omega (arith, untried_size a, a.order);
        rear = subst (λ (l : List Event). Stand now at (tried_from k s (reverse l) stay)) (sym none) a.rear;
      }

  module _ {r : Reached} (x : Reaches untried s from r) where
    -- ONE EVENT
    module _ (first : r.at ≤ from) where
      here : r.at ≡ from
      here = omega (arith, reached_above a x)

      only : untried ≡ x.event ∷ []
      only =
          x.split
          ∙ ap₂ (λ (l l' : List Event). l ++ (x.event ∷ l')) (no_events x.before (omega (arith, x.begins, here))) (x.alone here)

      tried_by : {b : Bool} → refused_from k stay s ≡ b → cond b stay (x.event ∷ stay) ≡ tried_from k s (reverse untried) stay
      unfolding tried_from after
      tried_by test =
          ap (λ (c : Bool). cond c stay (x.event ∷ stay)) (sym test) ∙ ap (λ (l : List Event). tried_from k s (reverse l) stay) (sym only)

      -- without it such a refusal remains
      pub left_out : refused_from k stay s ≡ true → Keeps now now from at (tried_from k s (reverse untried) stay)
      left_out test =
          record {
            size = refl;
            front = refl;
            above = omega (arith, untried_size a, a.order);
            rear = subst (λ (l : List Event). Stand now at l) (tried_by test) a.rear;
          }

      -- it does not, and the event is moved
      pub stays : refused_from k stay s ≡ false → {next : List ℕ} {place : ℕ} → Moved now next from to at place
          → Keeps now next from place (tried_from k s (reverse untried) stay)
      stays test {next} {place} m =
          let size = untried_size a in
          let rear : Stand next place (x.event ∷ stay) =
          record {
            low = omega (arith, m.begins, size, a.order, a.front.low);
            inside = omega (arith, m.begins, m.size, a.rear.inside);
            whole =
                m.rear
                ∙ ap₂ (λ (l l' : List ℕ). l ++ l') (a.front.whole ∙ ap records_of only) a.rear.whole
                ∙ sym (records_of_append (x.event ∷ []) stay);
          } in
          record {
            size = m.size;
            front = m.front;
            above = omega (arith, m.begins, size, a.order);
            rear = subst (λ (l : List Event). Stand next place l) (tried_by test) rear;
          }

    -- TWO HALVES. The second
    pub second_apart : Apart now r.at to at
    second_apart = record { front = stand_read (from_it a x); order = a.order; rear = a.rear }

    module _ {next : List ℕ} {place : ℕ}
        (y : Keeps now next r.at place (tried_from k (shown r.machine) (reverse (events_at r.at (take to now))) stay)) where
      -- and then the first
      first_stands : Stand (take r.at next) from x.before
      first_stands = subst (λ (l : List ℕ). Stand l from x.before) (sym y.front) (before_it a x)

      pub first_apart : Apart next from r.at place
      first_apart = record { front = stand_read first_stands; order = y.above; rear = stand_read y.rear }

      both : tried_from k s (reverse (events_at from (take r.at next))) (events_at place next) ≡ tried_from k s (reverse untried) stay
      both =
          ap₂ (λ (l l' : List Event). tried_from k s (reverse l) l') (events_at_lem first_stands) (events_at_lem y.rear)
          ∙ ap₂ (λ (z : State) (l : List Event). tried_from k s (reverse x.before) (tried_from k z (reverse l) stay)) x.state
          (events_at_lem (from_it a x))
          ∙ sym (halves_tried k s x.before (x.event ∷ x.later) stay)
          ∙ ap (λ (l : List Event). tried_from k s (reverse l) stay) (sym x.split)

      pub halves_keep : {last : List ℕ} {end : ℕ}
          → Keeps next last from end (tried_from k s (reverse (events_at from (take r.at next))) (events_at place next))
          → Keeps now last from end (tried_from k s (reverse untried) stay)
      halves_keep {last} {end} z =
          let above = reached_above a x in
          record {
            size = z.size ∙ y.size;
            front =
                z.front
                ∙ sym (take-take from r.at next above)
                ∙ ap (take from) y.front
                ∙ take-take from r.at now above;
            above = z.above;
            rear = subst (λ (l : List Event). Stand last end l) both z.rear;
          }
