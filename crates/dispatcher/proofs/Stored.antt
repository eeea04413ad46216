-- What `stored` says of a machine: a true L, and neighbours that form a list of T timeslices.
use Prim.Native.Nat.{ℕ, ◌≤◌, ◌<◌}
use mathlib.Core.Path.{◌≡◌, sym, ◌∙◌, ap, ap₂, subst}
use mathlib.Core.List.{List}
use mathlib.Core.Bool.{Bool, true}
use mathlib.Core.Option.{some}
use lib.ListN.{length, take}
use lib.Dec.{eqb, ltb}
use borrow.Author.Tests.{eqb-true, eq-eqb, ltb-true}
use Rattle.rules.specs.declared.Place.{Place}
use Rattle.rules.specs.Tests.{member}
use Rattle.rules.specs.State.{limit, live_thread_count, place_at}
use Rattle.rules.specs.Release.{topmost_at}
use Rattle.rules.specs.Sound.{sound}
use Rattle.rules.proofs.Basics.Members.{all_at}
use Rattle.rules.proofs.Order.Orders.{top_some}
use Rattle.rules.proofs.Basics.Views.{and_true_left, and_true_right, and_true_both}
use Rattle.neighbours.specs.Reading.{turns_read, is_listed}
use Rattle.neighbours.specs.Forming.{forms_list, Linked}
use Rattle.neighbours.proofs.Stepping.{take-laid, length-laid}
use Rattle.neighbours.proofs.TurnOrder.{forms_few, forms_linked, forms_length, linked_read, linked_forms, has_neighbour}
use Rattle.dispatcher.specs.declared.Machine.{Machine}
use Rattle.dispatcher.specs.Shown.{sides_of, turns_of, shown, stored, sound_machine}

-- the turn order that readers take, in an array, is the one shown, whatever the neighbours are
pub turns_shown : (m : Machine) → take m.live_timeslices (turns_of m) ≡ (shown m).order
turns_shown m = take-laid m.after m.live_timeslices

pub turns_long : (m : Machine) → length (turns_of m) ≡ 128
turns_long m = length-laid m.after m.live_timeslices

-- a sound machine is stored, and shows a sound state
pub sound_stored : (m : Machine) → sound_machine m ≡ true → stored m ≡ true
unfolding sound_machine
sound_stored m e = and_true_left (stored m) (sound (shown m)) e

pub sound_shown : (m : Machine) → sound_machine m ≡ true → sound (shown m) ≡ true
unfolding sound_machine
sound_shown m e = and_true_right (stored m) (sound (shown m)) e

module _ (m : Machine) (e : stored m ≡ true) where
  abbrev counted : Bool
  counted = eqb m.live_threads (live_thread_count m.threads)

  forms : forms_list (sides_of m) m.live_timeslices ≡ true
  unfolding stored
  forms = and_true_right counted (forms_list (sides_of m) m.live_timeslices) e

  pub live_is : m.live_threads ≡ live_thread_count m.threads
  unfolding stored
  live_is = eqb-true m.live_threads (live_thread_count m.threads)
      (and_true_left counted (forms_list (sides_of m) m.live_timeslices) e)

  pub turns_fit : m.live_timeslices ≤ 128
  turns_fit = forms_few (sides_of m) m.live_timeslices forms

  -- T is the number of live timeslices
  pub turns_many : length (shown m).order ≡ m.live_timeslices
  turns_many = forms_length (sides_of m) m.live_timeslices forms

  pub turns_linked : Linked (sides_of m) (shown m).order
  turns_linked = forms_linked (sides_of m) m.live_timeslices forms

-- a timeslice is listed exactly if it has a neighbour
pub says_listed : (m : Machine) → stored m ≡ true → (t : ℕ) (b v : Bool) → t < 128 → b ≡ is_listed m.after t → b ≡ v
    → member t (shown m).order ≡ v
says_listed m e t b v small is says = sym (has_neighbour (sides_of m) (shown m).order (turns_linked m e) t small) ∙ sym is ∙ says

-- and that is all there is to it: neighbours of this turn order, which is then the one shown
module _ (n : Machine) (order : List ℕ) (k : Linked (sides_of n) order) (many : length order ≡ n.live_timeslices)
    (few : n.live_timeslices ≤ 128) where
  short : length order ≤ limit
  short = subst (λ (j : ℕ). j ≤ limit) (sym many) few

  pub order_shown : turns_read n.after n.live_timeslices ≡ order
  order_shown = ap (turns_read n.after) (sym many) ∙ linked_read (sides_of n) order k short

  pub stored_of : n.live_threads ≡ live_thread_count n.threads → stored n ≡ true
  unfolding stored
  stored_of l =
      and_true_both _ _ (eq-eqb n.live_threads (live_thread_count n.threads) l)
      (subst (λ (j : ℕ). forms_list (sides_of n) j ≡ true) many (linked_forms (sides_of n) order k short))

-- other threads, timeslices and another running thread leave it so, where L is still true
pub stored_with : (m : Machine) → stored m ≡ true → (n : Machine) → sides_of n ≡ sides_of m → n.live_timeslices ≡ m.live_timeslices
    → n.live_threads ≡ live_thread_count n.threads → stored n ≡ true
unfolding stored
stored_with m e n o t l =
    and_true_both _ _ (eq-eqb n.live_threads (live_thread_count n.threads) l)
    (ap₂ forms_list o t ∙ forms m e)

-- the topmost timeslice of a set is listed, and its number small
pub topmost_fits : (m : Machine) → stored m ≡ true → (at : Place → Bool) (t : ℕ) → topmost_at at (shown m) ≡ some t → t < 128
topmost_fits m e at t is =
    let listed = (top_some (shown m).slices (λ u. at (place_at (shown m).places u)) (shown m).order t is).listed in
    ltb-true t limit (all_at (λ u. ltb u limit) (shown m).order (turns_linked m e).low t listed)
