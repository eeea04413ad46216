-- The release as a loop along the turn order: what is left to release from here gives the places of the whole.
use Prim.Native.Nat.{ℕ, ◌-◌, ◌≤◌, ◌<◌}
use mathlib.Core.Path.{◌≡◌, refl, sym, ◌∙◌, ap}
use mathlib.Core.List.{List, map}
use mathlib.Core.Bool.{Bool, true, false, cond}
use mathlib.Core.Option.{Option, none, some}
use native.Mathlib.Omega.{arith}
use lib.ListN.{length, get_or, set, length-set, length-map}
use lib.Seq.{map-set_same, set_out}
use lib.Dec.{eqb}
use Rattle.rules.specs.declared.Place.{Place}
use Rattle.rules.specs.declared.Place.TheVariants.{Queue, Behind}
use Rattle.rules.specs.declared.Timeslice.{Timeslice}
use Rattle.rules.specs.declared.Slice.{Slice}
use Rattle.rules.specs.State.{State, place_at, with_places}
use Rattle.rules.specs.Order.{topmost}
use Rattle.std.specs.Prelude as std
use Rattle.std.specs.Prelude.{Some, None}
use Rattle.rules.specs.Release.{released_place, released_places, release, release_to, topmost_at}
use Rattle.tables.specs.Timeslices.{with_place, slice_of, place_of, free_timeslice}
use Rattle.tables.specs.Sets.{sought_of}
use Rattle.tables.specs.Turning.{entries_of}
use Rattle.timeslices.specs.Releasing.{released_from, places_after, Replaced}
use Rattle.tables.proofs.Lookups.{place_at_lem, map-set}
use Rattle.neighbours.specs.Sides.{sentinel, neighbour}
use Rattle.neighbours.specs.Reading.{turns_from, turns_read}
use Rattle.neighbours.proofs.Stepping.{turn_from, no_turn}

-- so many timeslices are left, after the one that stands here
pub record Moving (at : Place → Bool) (q : ℕ) (after : List ℕ) (live : ℕ) (before now : List Timeslice) (left here : ℕ) : Type 0 where
  pub full : length now ≡ 128
  pub slices : map slice_of now ≡ map slice_of before
  pub rest : released_places at q (turns_from left after here) (map place_of now)
      ≡ released_places at q (turns_read after live) (map place_of before)

module _ (at : Place → Bool) (q : ℕ) (after : List ℕ) (live : ℕ) (before now : List Timeslice) (left here t : ℕ)
    (m : Moving at q after live before now left here) (some_left : 0 < left) (after_it : t ≡ neighbour after here) where
  abbrev moved : List Place
  moved = set (map place_of now) t (released_place at q t (place_at (map place_of now) t))

  next : (k : ℕ) → k ≡ t → released_places at q (turns_from (left - 1) after k) moved
      ≡ released_places at q (turns_read after live) (map place_of before)
  unfolding released_places
  next k e =
      ap (λ (j : ℕ). released_places at q (turns_from (left - 1) after j) moved) e
      ∙ rw (turn_from left after here t some_left after_it) at m.rest

  -- a timeslice of the set is moved
  pub move : (k : ℕ) (y : Timeslice) → k ≡ t → at (get_or now k free_timeslice).place ≡ true
      → y ≡ with_place (cond (eqb t q) Queue (Behind q)) (get_or now k free_timeslice)
      → Moving at q after live before (set now k y) (left - 1) k
  move k y e taken new =
      let x = get_or now k free_timeslice in
      let goes : released_place at q t x.place ≡ cond (eqb t q) Queue (Behind q) = rw taken refl in
      let place : cond (eqb t q) Queue (Behind q) ≡ released_place at q t (place_at (map place_of now) t) =
      sym goes ∙ ap (released_place at q t) (sym (place_at_lem now k) ∙ ap (place_at (map place_of now)) e) in
      let stored : map place_of (set now k y) ≡ set (map place_of now) t (released_place at q t (place_at (map place_of now) t)) =
      map-set place_of now k y ∙ ap (λ (p : Place). set (map place_of now) k p) (ap place_of new ∙ place)
      ∙ ap (λ (j : ℕ). set (map place_of now) j (released_place at q t (place_at (map place_of now) t))) e in
      record {
        full = length-set now k y ∙ m.full;
        slices = map-set_same slice_of now k y free_timeslice (ap slice_of new) ∙ m.slices;
        rest = rw stored (next k e);
      }

  -- a timeslice that is not in the set stays where it is
  pub stay : (k : ℕ) → k ≡ t → at (get_or now k free_timeslice).place ≡ false → Moving at q after live before now (left - 1) k
  stay k e out =
      let x = get_or now t free_timeslice in
      let stands : place_at (map place_of now) t ≡ x.place = place_at_lem now t in
      let left_there : at x.place ≡ false = ap (λ (j : ℕ). at (get_or now j free_timeslice).place) (sym e) ∙ out in
      let keeps : released_place at q t (place_at (map place_of now) t) ≡ x.place = rw (stands, left_there) refl in
      let same : set (map place_of now) t (released_place at q t (place_at (map place_of now) t)) ≡ map place_of now =
      ap (set (map place_of now) t) keeps ∙ sym (map-set place_of now t x) ∙ map-set_same place_of now t x free_timeslice refl in
      record { full = m.full; slices = m.slices; rest = rw same at (next k e) }

  -- a number that is no timeslice's moves nothing
  pub skip : (k : ℕ) → k ≡ t → 128 ≤ k → Moving at q after live before now (left - 1) k
  skip k e out =
      let same = set_out (map place_of now) t (released_place at q t (place_at (map place_of now) t))
      (rw length-map (omega (arith, m.full, e))) in
      record { full = m.full; slices = m.slices; rest = rw same at (next k e) }

pub begin : (at : Place → Bool) (q : ℕ) (after : List ℕ) (live : ℕ) (ts : List Timeslice) (n : ℕ) → length ts ≡ 128 → n ≡ entries_of live
    → Moving at q after live ts ts n sentinel
begin at q after live ts n full e =
    record { full = full; slices = refl; rest = ap (λ (k : ℕ). released_places at q (turns_from k after sentinel) (map place_of ts)) e }

pub done : (at : Place → Bool) (q : ℕ) (after : List ℕ) (live : ℕ) (before now : List Timeslice) (left here : ℕ)
    → Moving at q after live before now left here → left ≤ 0
    → Replaced before (released_places at q (turns_read after live) (map place_of before)) now
unfolding released_places
done at q after live before now left here m none_left =
    record { slices = m.slices; places = rw (no_turn left after here none_left) at m.rest }

-- the release of document 01 changes the places alone
pub release_is : (at : Place → Bool) (s : State) → release at s ≡ with_places (places_after at s.slices s.order s.places) s
unfolding release
release_is at s = go (topmost_at at s)
  where
    go : (o : Option ℕ) → release_to at s o ≡ with_places (released_from at s.order s.places o) s
    go none = refl
    go (some q) = refl

-- a search that found nothing, or the topmost one
module _ (at : Place → Bool) (ss : List Slice) (order : List ℕ) (ps : List Place) (f : std.Option ℕ)
    (e : sought_of f ≡ topmost ss (λ t. at (place_at ps t)) order) where
  pub nobody : f ≡ None → ps ≡ places_after at ss order ps
  nobody h = ap (λ (g : std.Option ℕ). released_from at order ps (sought_of g)) (sym h) ∙ ap (released_from at order ps) e

  pub somebody : (q : ℕ) → f ≡ Some q → released_places at q order ps ≡ places_after at ss order ps
  somebody q h = ap (λ (g : std.Option ℕ). released_from at order ps (sought_of g)) (sym h) ∙ ap (released_from at order ps) e
