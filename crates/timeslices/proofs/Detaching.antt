-- A timeslice is detached and takes a priority: what the stored table shows is what the rules say of its slices and its places.
use Prim.Native.Nat.{ℕ}
use mathlib.Core.Path.{◌≡◌, refl, sym, ◌∙◌, ap, subst}
use mathlib.Core.List.{List, map}
use lib.ListN.{get_or, set}
use lib.Seq.{map-set_same}
use Rattle.rules.specs.declared.Place.{Place}
use Rattle.rules.specs.declared.Place.TheVariants.{Queue, Behind, On, Stalled, Spent}
use Rattle.rules.specs.declared.Timeslice.{Timeslice}
use Rattle.rules.specs.declared.Slice.{Slice}
use Rattle.rules.specs.State.{State, place_at, with_places}
use Rattle.rules.specs.Timeslices.{ranked}
use Rattle.rules.specs.Timeslices as slices
use Rattle.rules.specs.Release.{behind}
use Rattle.rules.specs.Events.{detached}
use Rattle.tables.specs.Timeslices.{slice_of, place_of, free_timeslice, with_place, with_priority, set_priority}
use Rattle.timeslices.specs.Releasing.{detached_places, Replaced}
use Rattle.tables.proofs.Lookups.{slice_at_lem, place_at_lem, map-set}
use Rattle.timeslices.proofs.ReleaseLoop.{release_is}

-- a timeslice at another place
pub replaced : (ts : List Timeslice) (t : ℕ) (p : Place) (x : Timeslice) → x ≡ get_or ts t free_timeslice
    → Replaced ts (set (map place_of ts) t p) (set ts t (with_place p x))
replaced ts t p x e =
    let y = with_place p x in
    record { slices = map-set_same slice_of ts t y free_timeslice (ap slice_of e); places = map-set place_of ts t y }

pub unmoved : (ts : List Timeslice) → Replaced ts (map place_of ts) ts
unmoved ts = record { slices = refl; places = refl }

-- one with another priority
pub ranked_slices : (ts : List Timeslice) (t n : ℕ) → map slice_of (set_priority t n ts) ≡ ranked t n (map slice_of ts)
unfolding set_priority ranked
ranked_slices ts t n =
    map-set slice_of ts t (with_priority n (get_or ts t free_timeslice))
    ∙ ap (λ (x : Slice). set (map slice_of ts) t (slices.with_priority n x)) (sym (slice_at_lem ts t))

pub ranked_places : (ts : List Timeslice) (t n : ℕ) → map place_of (set_priority t n ts) ≡ map place_of ts
unfolding set_priority
ranked_places ts t n = map-set_same place_of ts t (with_priority n (get_or ts t free_timeslice)) free_timeslice refl

-- by the place that was read
pub by_place : (t : ℕ) (order : List ℕ) (ts after : List Timeslice) (x : Timeslice) (p : Place) → x ≡ get_or ts t free_timeslice
    → x.place ≡ p
    → Replaced ts (detached_places t (map slice_of ts) order (map place_of ts) p) after
    → Replaced ts (detached_places t (map slice_of ts) order (map place_of ts) (place_at (map place_of ts) t)) after
by_place t order ts after x p e is r =
    let stands : p ≡ place_at (map place_of ts) t = sym is ∙ ap place_of e ∙ sym (place_at_lem ts t) in
    subst (λ (q : Place). Replaced ts (detached_places t (map slice_of ts) order (map place_of ts) q) after) stands r

-- the rules change the places alone
pub detached_is : (t : ℕ) (s : State) (p : Place)
    → detached t s p ≡ with_places (detached_places t s.slices s.order s.places p) s
detached_is t s Queue = release_is (behind t) s
detached_is t s (Behind q) = refl
detached_is t s (On n) = refl
detached_is t s Stalled = refl
detached_is t s Spent = refl
