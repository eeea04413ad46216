-- A rightly stored machine is the only one that shows its state: a contract that gives the state and `stored` leaves nothing open.
use mathlib.Core.Path.{◌≡◌, refl, sym, ap, subst, ◌∙◌}
use mathlib.Core.List.{List, [], ◌∷◌, map}
use mathlib.Core.Bool.{true}
use lib.ListN.{length}
use Rattle.rules.specs.declared.Timeslice.{Timeslice}
use Rattle.rules.specs.State.{State, live_thread_count}
use Rattle.tables.specs.Timeslices.{slice_of, place_of}
use Rattle.neighbours.specs.Forming.{Linked}
use Rattle.neighbours.proofs.TurnOrder.{linked_same}
use Rattle.dispatcher.specs.declared.Machine.{Machine}
use Rattle.dispatcher.specs.Shown.{sides_of, shown, stored}
use Rattle.dispatcher.proofs.Stored.{live_is, turns_many, turns_linked}

-- a timeslice is what it is without its place, and its place
same_timeslice : (x y : Timeslice) → slice_of x ≡ slice_of y → place_of x ≡ place_of y → x ≡ y
same_timeslice x y s p =
    λ i. record { owner = (s i).owner; priority = (s i).priority; quantum = (s i).quantum; left = (s i).left; place = p i }

same_timeslices : (xs ys : List Timeslice) → map slice_of xs ≡ map slice_of ys → map place_of xs ≡ map place_of ys → xs ≡ ys
same_timeslices [] [] s p = refl
same_timeslices [] (y ∷ ys) s p = cc
same_timeslices (x ∷ xs) [] s p = cc
same_timeslices (x ∷ xs) (y ∷ ys) s p =
    let head-slice : slice_of x ≡ slice_of y = cc in
    let head-place : place_of x ≡ place_of y = cc in
    let tail-slices : map slice_of xs ≡ map slice_of ys = cc in
    let tail-places : map place_of xs ≡ map place_of ys = cc in
    λ i. same_timeslice x y head-slice head-place i ∷ same_timeslices xs ys tail-slices tail-places i

-- THE ONE FORM
pub one_form : (m n : Machine) → stored m ≡ true → stored n ≡ true → shown m ≡ shown n → m ≡ n
one_form m n h h' same =
    let threads = ap (λ (s : State). s.threads) same in
    let order : (shown m).order ≡ (shown n).order = ap (λ (s : State). s.order) same in
    let live : m.live_timeslices ≡ n.live_timeslices = sym (turns_many m h) ∙ ap length order ∙ turns_many n h' in
    let timeslices = same_timeslices m.timeslices n.timeslices (ap (λ (s : State). s.slices) same)
    (ap (λ (s : State). s.places) same) in
    let sides : sides_of m ≡ sides_of n =
    linked_same (sides_of m) (sides_of n) (shown n).order (subst (Linked (sides_of m)) order (turns_linked m h)) (turns_linked n h') in
    let counted : m.live_threads ≡ n.live_threads = live_is m h ∙ ap live_thread_count threads ∙ sym (live_is n h') in
    λ i. record {
      threads = threads i;
      timeslices = timeslices i;
      before = (sides i).before;
      after = (sides i).after;
      live_threads = counted i;
      live_timeslices = live i;
      running = (same i).running;
    }
