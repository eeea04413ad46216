-- Two sets that have no place in common, and neither Queue nor Behind: released in either order, they leave the same machine, since the
-- release of the one moves nobody into the other or out of it.
use Prim.Native.Nat.{ℕ, ◌<◌}
use mathlib.Core.Path.{◌≡◌, refl, sym, ap, ◌∙◌}
use mathlib.Core.List.{List}
use mathlib.Core.Bool.{Bool, true, false}
use mathlib.Core.Option.{Option, none, some}
use lib.ListN.{length}
use lib.Seq.{ext_get_or}
use lib.Dec.{eqb}
use Rattle.rules.specs.declared.Place.{Place}
use Rattle.rules.specs.declared.Place.TheVariants.{Queue, Behind}
use Rattle.rules.specs.declared.Running.{Running}
use Rattle.rules.specs.declared.Thread.{Thread}
use Rattle.rules.specs.Tests.{member, distinct}
use Rattle.rules.specs.State.{State, Plain, forget, free_place, place_at, with_threads, with_running}
use Rattle.rules.specs.Order.{topmost}
use Rattle.rules.specs.Release.{topmost_at, released_place, release_to, release}
use Rattle.rules.proofs.Basics.Views.{Two, yes_true, no_false, two}
use Rattle.rules.proofs.Order.Orders.{topmost_same}
use Rattle.rules.proofs.Choosing.Releases.{Released, nobody, joins, released, forget_release, length-released, not_released}
use Rattle.rules.proofs.Choosing.Releases.{released_at}

-- a release looks neither at the threads nor at what runs
release_to_threads : (at : Place → Bool) (ts : List Thread) (s : State) (o : Option ℕ)
    → release_to at (with_threads ts s) o ≡ with_threads ts (release_to at s o)
release_to_threads at ts s none = refl
release_to_threads at ts s (some q) = refl

pub release_threads : (at : Place → Bool) (ts : List Thread) (s : State) → release at (with_threads ts s) ≡ with_threads ts (release at s)
unfolding release
release_threads at ts s = release_to_threads at ts s (topmost_at at s)

release_to_running : (at : Place → Bool) (r : Running) (s : State) (o : Option ℕ)
    → release_to at (with_running r s) o ≡ with_running r (release_to at s o)
release_to_running at r s none = refl
release_to_running at r s (some q) = refl

pub release_running : (at : Place → Bool) (r : Running) (s : State) → release at (with_running r s) ≡ with_running r (release at s)
unfolding release
release_running at r s = release_to_running at r s (topmost_at at s)

-- where the timeslice goes, by the topmost of its set
abbrev goes : (Place → Bool) → Option ℕ → ℕ → Place → Place
goes at none u p = p
goes at (some q) u p = released_place at q u p

-- a turn order without repetition, with a slot for each timeslice
pub record Listing (order : List ℕ) (places : List Place) : Type 0 where
  pub once : distinct order ≡ true
  pub small : (u : ℕ) → member u order ≡ true → u < length places

length-places : (at : Place → Bool) (s : State) → length (release at s).places ≡ length s.places
length-places at s = by (released at s)
  where
    by : Released at s → length (release at s).places ≡ length s.places
    by (nobody e r) = rw r
    by (joins q e r) = rw r (length-released at q s.order s.places)

place_unlisted : (at : Place → Bool) (s : State) (u : ℕ) → member u s.order ≡ false
    → place_at (release at s).places u ≡ place_at s.places u
place_unlisted at s u n = by (released at s)
  where
    by : Released at s → place_at (release at s).places u ≡ place_at s.places u
    by (nobody e r) = rw r
    by (joins q e r) = rw r (not_released at q s.order s.places u n)

place_listed : (at : Place → Bool) (s : State) → Listing s.order s.places → (u : ℕ) → member u s.order ≡ true
    → place_at (release at s).places u ≡ goes at (topmost_at at s) u (place_at s.places u)
place_listed at s l u h = by (released at s)
  where
    by : Released at s → place_at (release at s).places u ≡ goes at (topmost_at at s) u (place_at s.places u)
    by (nobody e r) = rw (r, e)
    by (joins q e r) = rw (r, e) (released_at at q s.order s.places l.once l.small u h)

same_order : (at : Place → Bool) (s : State) → (release at s).order ≡ s.order
same_order at s = ap (λ (p : Plain). p.order) (forget_release at s)

listing_kept : (at : Place → Bool) (s : State) → Listing s.order s.places
    → Listing (release at s).order (release at s).places
listing_kept at s l =
    record { once = rw (same_order at s) l.once; small = λ u h. rw (length-places at s) (l.small u (rw (same_order at s) at h)) }

-- what a release makes of a place is Queue or Behind
pub record Apart (at bt : Place → Bool) : Type 0 where
  pub queue : at Queue ≡ false
  pub behind : (q : ℕ) → at (Behind q) ≡ false
  pub other : (p : Place) → bt p ≡ true → at p ≡ false

-- the release of bt moves nobody into at or out of it
unmoved : {at bt : Place → Bool} → Apart at bt → (o : Option ℕ) (u : ℕ) (p : Place) → at (goes bt o u p) ≡ at p
unmoved x none u p = refl
unmoved {at} {bt} x (some q) u p = by (two (bt p)) (two (eqb u q))
  where
    by : Two (bt p) → Two (eqb u q) → at (released_place bt q u p) ≡ at p
    by (yes_true e) (yes_true f) = rw (e, f) (x.queue ∙ sym (x.other p e))
    by (yes_true e) (no_false f) = rw (e, f) (x.behind q ∙ sym (x.other p e))
    by (no_false e) f = rw e

pub topmost_unmoved : {at bt : Place → Bool} → Apart at bt → (s : State) → Listing s.order s.places
    → topmost_at at (release bt s) ≡ topmost_at at s
topmost_unmoved {at} {bt} x s l =
    let f = forget_release bt s in
    (λ i. topmost (f i).slices (λ u. at (place_at (release bt s).places u)) (f i).order)
    ∙ topmost_same s.slices (λ u. at (place_at (release bt s).places u)) (λ u. at (place_at s.places u)) s.order
    (λ u h. ap at (place_listed bt s l u h) ∙ unmoved x (topmost_at bt s) u (place_at s.places u))

-- who is not in the set stays
stays : (at : Place → Bool) (o : Option ℕ) (u : ℕ) (p : Place) → at p ≡ false → goes at o u p ≡ p
stays at none u p e = refl
stays at (some q) u p e = rw e

goes_commute : {at bt : Place → Bool} → Apart at bt → Apart bt at → (o o' : Option ℕ) (u : ℕ) (p : Place)
    → goes bt o' u (goes at o u p) ≡ goes at o u (goes bt o' u p)
goes_commute {at} {bt} x y o o' u p = by (two (at p))
  where
    by : Two (at p) → goes bt o' u (goes at o u p) ≡ goes at o u (goes bt o' u p)
    by (yes_true e) =
        let out = y.other p e in
        stays bt o' u (goes at o u p) (unmoved y o u p ∙ out) ∙ ap (goes at o u) (sym (stays bt o' u p out))
    by (no_false e) =
        ap (goes bt o' u) (stays at o u p e) ∙ sym (stays at o u (goes bt o' u p) (unmoved x o' u p ∙ e))

-- the release of at, then that of bt
module _ (at bt : Place → Bool) (s : State) where
  forget_both : forget (release bt (release at s)) ≡ forget s
  forget_both = forget_release bt (release at s) ∙ forget_release at s

  length_both : length (release bt (release at s)).places ≡ length s.places
  length_both = length-places bt (release at s) ∙ length-places at s

  unlisted_both : (u : ℕ) → member u s.order ≡ false → place_at (release bt (release at s)).places u ≡ place_at s.places u
  unlisted_both u n = place_unlisted bt (release at s) u (rw (same_order at s) n) ∙ place_unlisted at s u n

  listed_both : Apart bt at → Listing s.order s.places → (u : ℕ) → member u s.order ≡ true
      → place_at (release bt (release at s)).places u ≡ goes bt (topmost_at bt s) u (goes at (topmost_at at s) u (place_at s.places u))
  listed_both y l u h =
      place_listed bt (release at s) (listing_kept at s l) u (rw (same_order at s) h)
      ∙ ap (λ (o : Option ℕ). goes bt o u (place_at (release at s).places u)) (topmost_unmoved y s l)
      ∙ ap (goes bt (topmost_at bt s) u) (place_listed at s l u h)

pub releases_commute : {at bt : Place → Bool} → Apart at bt → Apart bt at → (s : State) → Listing s.order s.places
    → release bt (release at s) ≡ release at (release bt s)
releases_commute {at} {bt} x y s l =
    let plain = forget_both at bt s ∙ sym (forget_both bt at s) in
    let places = ext_get_or free_place (release bt (release at s)).places (release at (release bt s)).places
    (length_both at bt s ∙ sym (length_both bt at s)) (λ u _. by u (two (member u s.order))) in
    λ i. record {
      threads = (plain i).threads;
      slices = (plain i).slices;
      places = places i;
      order = (plain i).order;
      running = (plain i).running;
    }
  where
    by : (u : ℕ) → Two (member u s.order)
        → place_at (release bt (release at s)).places u ≡ place_at (release at (release bt s)).places u
    by u (yes_true h) =
        listed_both at bt s y l u h ∙ goes_commute x y (topmost_at at s) (topmost_at bt s) u (place_at s.places u)
        ∙ sym (listed_both bt at s x l u h)
    by u (no_false n) = unlisted_both at bt s u n ∙ sym (unlisted_both bt at s u n)
