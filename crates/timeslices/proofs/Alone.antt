-- The release of a set of one: nobody goes Behind another, so that only its timeslice moves.
use Prim.Native.Nat.{ℕ, suc}
use mathlib.Core.Path.{◌≡◌, refl, sym, ◌∙◌, ap, subst}
use mathlib.Core.List.{List, [], ◌∷◌}
use mathlib.Core.Bool.{Bool, true, false}
use mathlib.Core.Option.{none, some}
use native.Mathlib.Omega.{arith}
use lib.ListN.{length, set}
use lib.Seq.{get_or-set_other, set-get_or}
use borrow.Author.Tests.{eq-eqb}
use Rattle.rules.specs.declared.Place.{Place}
use Rattle.rules.specs.declared.Place.TheVariants.{Queue}
use Rattle.rules.specs.declared.Slice.{Slice}
use Rattle.rules.specs.Tests.{filter}
use Rattle.rules.specs.State.{place_at, free_place}
use Rattle.rules.specs.Order.{topmost}
use Rattle.rules.specs.Release.{released_place, released_places}
use Rattle.rules.proofs.Basics.Views.{Two, yes_true, no_false, two, clash, Same, equal, different, same}
use Rattle.timeslices.specs.declared.search.Members.{Members}
use Rattle.timeslices.specs.declared.search.Members.TheVariants.{None, One, Several}
use Rattle.timeslices.specs.Searching.{members_of}
use Rattle.timeslices.specs.Releasing.{released_from, places_after}
use Rattle.timeslices.proofs.Forward.{topmost_of, says_top, says_one}

-- a test that takes nobody of a list, by the length of what it takes
nobody_taken : (f : ℕ → Bool) (t : ℕ) (l : List ℕ) → length (filter f (t ∷ l)) ≡ 0 → (f t ≡ false) × (length (filter f l) ≡ 0)
unfolding filter
nobody_taken f t l none_there = by (two (f t))
  where
    by : Two (f t) → (f t ≡ false) × (length (filter f l) ≡ 0)
    by (yes_true e) = let z : suc (length (filter f l)) ≡ 0 = rw e at none_there in absurd (omega arith)
    by (no_false e) = (e, rw e at none_there)

-- a stricter test takes nobody either
fewer : (f g : ℕ → Bool) (l : List ℕ) → ((u : ℕ) → f u ≡ false → g u ≡ false) → length (filter f l) ≡ 0 → length (filter g l) ≡ 0
unfolding filter
fewer f g [] less none_there = refl
fewer f g (t ∷ l) less none_there =
    let both = nobody_taken f t l none_there in
    rw (less t both.0) (fewer f g l less both.1)

module _ (at : Place → Bool) where
  abbrev there : List Place → ℕ → Bool
  there ps t = at (place_at ps t)

  -- a timeslice that is not in the set stays where it is
  stays : (ps : List Place) (q t : ℕ) → there ps t ≡ false → set ps t (released_place at q t (place_at ps t)) ≡ ps
  stays ps q t e = rw e (set-get_or ps t free_place)

  none_released : (q : ℕ) (l : List ℕ) (ps : List Place) → length (filter (there ps) l) ≡ 0 → released_places at q l ps ≡ ps
  unfolding released_places
  none_released q [] ps none_there = refl
  none_released q (t ∷ l) ps none_there =
      let both = nobody_taken (there ps) t l none_there in
      rw (stays ps q t both.0) (none_released q l ps both.1)

  none_topmost : (ss : List Slice) (ps : List Place) (l : List ℕ) → length (filter (there ps) l) ≡ 0 → topmost ss (there ps) l ≡ none
  unfolding topmost
  none_topmost ss ps [] none_there = refl
  none_topmost ss ps (t ∷ l) none_there =
      let both = nobody_taken (there ps) t l none_there in
      rw both.0 (none_topmost ss ps l both.1)

  -- it is in the set, and so is nobody after it
  moves_alone : (ps : List Place) (t : ℕ) (l : List ℕ) → there ps t ≡ true → length (filter (there ps) l) ≡ 0
      → released_places at t (t ∷ l) ps ≡ set ps t Queue
  unfolding released_places
  moves_alone ps t l e none_after =
      let others : (u : ℕ) → there ps u ≡ false → there (set ps t Queue) u ≡ false = λ u out. other u out (same u t) in
      let itself = eq-eqb t t refl in
      rw (e, itself) (none_released t l (set ps t Queue) (fewer (there ps) (there (set ps t Queue)) l others none_after))
    where
      other : (u : ℕ) → there ps u ≡ false → Same u t → there (set ps t Queue) u ≡ false
      other u out (equal this is) = clash (there ps t) e (ap (there ps) (sym this) ∙ out)
      other u out (different n isnt) = ap at (get_or-set_other ps t u Queue free_place n) ∙ out

pub one_released : (at : Place → Bool) (ss : List Slice) (ps : List Place) (turns : List ℕ) (q : ℕ)
    → topmost ss (λ t. at (place_at ps t)) turns ≡ some q → length (filter (λ t. at (place_at ps t)) turns) ≡ 1
    → released_places at q turns ps ≡ set ps q Queue
unfolding filter topmost released_places
one_released at ss ps [] q top one = absurd (omega arith)
one_released at ss ps (t ∷ l) q top one = by (two (at (place_at ps t))) (λ top' one'. one_released at ss ps l q top' one')
  where
    by : Two (at (place_at ps t))
        → (topmost ss (λ u. at (place_at ps u)) l ≡ some q → length (filter (λ u. at (place_at ps u)) l) ≡ 1
        → released_places at q l ps ≡ set ps q Queue)
        → released_places at q (t ∷ l) ps ≡ set ps q Queue
    by (yes_true e) rest =
        let none_after : length (filter (λ u. at (place_at ps u)) l) ≡ 0 = alone e in
        let this : t ≡ q = only e none_after in
        subst (λ (x : ℕ). released_places at x (t ∷ l) ps ≡ set ps x Queue) this (moves_alone at ps t l e none_after)
      where
        alone : at (place_at ps t) ≡ true → length (filter (λ u. at (place_at ps u)) l) ≡ 0
        alone is = let s : suc (length (filter (λ u. at (place_at ps u)) l)) ≡ 1 = rw is at one in omega arith

        only : at (place_at ps t) ≡ true → length (filter (λ u. at (place_at ps u)) l) ≡ 0 → t ≡ q
        only is none_after = let found : some t ≡ some q = rw (is, none_topmost at ss ps l none_after) at top in cc found
    by (no_false e) rest = rw (stays at ps q t e) (rest (rw e at top) (rw e at one))

-- what the search of the set found says which places there are after the release
module _ (at : Place → Bool) (ss : List Slice) (turns : List ℕ) (ps : List Place) (m : Members)
    (e : m ≡ members_of (topmost ss (λ t. at (place_at ps t)) turns) (length (filter (λ t. at (place_at ps t)) turns))) where
  top : (a : Members) → m ≡ a → topmost_of a ≡ topmost ss (λ t. at (place_at ps t)) turns
  top a is = says_top (topmost ss (λ t. at (place_at ps t)) turns) (length (filter (λ t. at (place_at ps t)) turns)) m e a is

  pub found_none : m ≡ None → ps ≡ places_after at ss turns ps
  found_none is = ap (released_from at turns ps) (top None is)

  pub found_one : (q : ℕ) → m ≡ One q → set ps q Queue ≡ places_after at ss turns ps
  found_one q is =
      let one = says_one (topmost ss (λ t. at (place_at ps t)) turns) (length (filter (λ t. at (place_at ps t)) turns)) m e q is in
      sym (one_released at ss ps turns q (sym (top (One q) is)) one) ∙ ap (released_from at turns ps) (top (One q) is)

  pub found_several : (q : ℕ) → m ≡ Several q → released_places at q turns ps ≡ places_after at ss turns ps
  found_several q is = ap (released_from at turns ps) (top (Several q) is)
