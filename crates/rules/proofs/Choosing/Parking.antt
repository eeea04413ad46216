-- A timeslice is put aside: its followers are released, the plain machine sees nothing, and one timeslice less is left to look at.
use Prim.Native.Nat.{ℕ, zero, suc, ◌<◌, ◌≤◌}
use mathlib.Core.Path.{◌≡◌, refl, sym, ap, ◌∙◌}
use mathlib.Core.List.{List, [], ◌∷◌}
use mathlib.Core.Bool.{Bool, true, false}
use mathlib.Core.Option.{some}
use native.Mathlib.Omega.{arith}
use lib.ListN.{length, set}
use lib.Seq.{get_or-set_same, get_or-set_other}
use borrow.Author.Tests.{eq-eqb}
use Rattle.rules.specs.declared.Place.{Place}
use Rattle.rules.specs.declared.Place.TheVariants.{Queue, Behind, On, Stalled, Spent}
use Rattle.rules.specs.Tests.{member}
use Rattle.rules.specs.State.{State, Plain, forget, free_place, place_at, with_places, one_more_if}
use Rattle.rules.specs.Release.{is_spent, in_queue, behind, topmost_at, release}
use Rattle.rules.specs.Choice.{park}
use Rattle.rules.proofs.Basics.Views.{clash, Same, equal, different, same}
use Rattle.rules.proofs.Basics.Members.{Listed, here, there, listed, not_listed, member_here, member_there}
use Rattle.rules.proofs.Order.Orders.{Top}
use Rattle.rules.proofs.Soundness.Places.{Good, Mid}
use Rattle.rules.proofs.Choosing.Releases.{Releasable, release_mid, forget_release, Moved, unmoved, chosen, place_after}
use Rattle.rules.proofs.Choosing.Tops.{queue_top, top_queued}
use Rattle.rules.proofs.Choosing.Slices.{put_listed, freed, retimed_releasable, unchanged}

-- how many members of a list pass a test
unfoldable pub how_many : (ℕ → Bool) → List ℕ → ℕ
how_many f [] = zero
how_many f (x ∷ xs) = one_more_if (f x) (how_many f xs)

one_more_most : (b : Bool) (n : ℕ) → one_more_if b n ≤ suc n
one_more_most true n = omega arith
one_more_most false n = omega arith

pub how_many_most : (f : ℕ → Bool) (l : List ℕ) → how_many f l ≤ length l
unfolding how_many
how_many_most f [] = omega arith
how_many_most f (x ∷ xs) = omega (arith, one_more_most (f x) (how_many f xs), how_many_most f xs)

-- where one test implies the other, it passes no more often
one_more_less : (a b : Bool) (n m : ℕ) → (a ≡ true → b ≡ true) → n ≤ m → one_more_if a n ≤ one_more_if b m
one_more_less true true n m i h = omega arith
one_more_less true false n m i h = clash false (i refl) refl
one_more_less false true n m i h = omega arith
one_more_less false false n m i h = h

pub how_many_less : (f g : ℕ → Bool) (l : List ℕ) → ((u : ℕ) → member u l ≡ true → f u ≡ true → g u ≡ true) → how_many f l ≤ how_many g l
unfolding how_many
how_many_less f g [] i = omega arith
how_many_less f g (x ∷ xs) i =
    one_more_less (f x) (g x) (how_many f xs) (how_many g xs) (i x (member_here x x xs refl))
    (how_many_less f g xs (λ u h. i u (member_there u x xs h)))

-- and less often if a member passes the other alone
pub how_many_fewer : (f g : ℕ → Bool) (l : List ℕ) → ((u : ℕ) → member u l ≡ true → f u ≡ true → g u ≡ true)
    → (t : ℕ) → member t l ≡ true → f t ≡ false → g t ≡ true → how_many f l < how_many g l
unfolding how_many
how_many_fewer f g [] i t h n y = clash (member t []) h (not_listed t)
how_many_fewer f g (x ∷ xs) i t h n y =
    by (listed t x xs h) (λ k. how_many_fewer f g xs (λ u m. i u (member_there u x xs m)) t k n y)
    (how_many_less f g xs (λ u m. i u (member_there u x xs m)))
    (i x (member_here x x xs refl))
  where
    strict : (a b : Bool) (p q : ℕ) → (a ≡ true → b ≡ true) → p < q → one_more_if a p < one_more_if b q
    strict true true p q j k = omega arith
    strict true false p q j k = clash false (j refl) refl
    strict false true p q j k = omega arith
    strict false false p q j k = k

    by : Listed t x xs → (member t xs ≡ true → how_many f xs < how_many g xs) → how_many f xs ≤ how_many g xs → (f x ≡ true → g x ≡ true)
        → one_more_if (f x) (how_many f xs) < one_more_if (g x) (how_many g xs)
    by (here e) r less j = rw (← e, n, y) (omega arith)
    by (there k) r less j = strict (f x) (g x) (how_many f xs) (how_many g xs) j (r k)

-- put aside by a look: On or Stalled
abbrev pub unparked : Place → Bool
unparked Queue = true
unparked (Behind q) = true
unparked (On n) = false
unparked Stalled = false
unparked Spent = true

-- how many timeslices are not put aside
abbrev pub unparked_in : State → ℕ
unparked_in s = how_many (λ t. unparked (place_at s.places t)) s.order

pub unparked_most : (s : State) → unparked_in s ≤ length s.order
unparked_most s = how_many_most (λ t. unparked (place_at s.places t)) s.order

-- the machine between the new place and the release
module _ (s : State) (x : Mid s) (t : ℕ) (e : topmost_at in_queue s ≡ some t) (p : Place) (aside : unparked p ≡ false)
    (good : Good s t p) where
  set-aside : State
  set-aside = with_places (set s.places t p) s

  top : Top s.slices (λ u. in_queue (place_at s.places u)) s.order t
  top = queue_top s t e

  queued : place_at s.places t ≡ Queue
  queued = top_queued s t e

  at_t : place_at (set s.places t p) t ≡ p
  at_t = get_or-set_same s.places t p free_place (rw x.placed.full (x.shape.turns.small t top.listed))

  elsewhere : (u : ℕ) → (u ≡ t → ⊥) → place_at (set s.places t p) u ≡ place_at s.places u
  elsewhere u n = get_or-set_other s.places t u p free_place n

  good_aside : (r : Place) → unparked r ≡ false → Good s t r → Good set-aside t r
  unfolding set-aside
  good_aside Queue a g = tt
  good_aside (Behind q) a g = clash true refl a
  good_aside (On n) a g = g
  good_aside Stalled a g = g
  good_aside Spent a g = tt

  -- it was in Queue and is put aside: something is left of it
  unspent : (r : Place) → unparked r ≡ false → is_spent r ≡ is_spent Queue
  unspent Queue a = refl
  unspent (Behind q) a = refl
  unspent (On n) a = refl
  unspent Stalled a = refl
  unspent Spent a = clash true refl a

  pub aside_releasable : Releasable (behind t) (with_places (set s.places t p) s)
  unfolding set-aside
  aside_releasable =
      retimed_releasable x (unchanged x.shape.turns t top.listed) p
      (put_listed set-aside t p top.listed (good_aside p aside good)
      (unspent p aside ∙ sym (ap is_spent queued) ∙ x.placed.spent t top.listed))
      (freed (eq-eqb t t refl)) refl refl

  pub park_mid : Mid (park t p s)
  unfolding park set-aside
  park_mid = release_mid (behind t) set-aside aside_releasable

  pub park_forget : forget (park t p s) ≡ forget s
  unfolding park set-aside
  park_forget = forget_release (behind t) set-aside

  -- a follower was not put aside
  behind_unparked : (r : Place) → behind t r ≡ true → unparked r ≡ true
  behind_unparked Queue k = refl
  behind_unparked (Behind q) k = refl
  behind_unparked (On n) k = clash false k refl
  behind_unparked Stalled k = clash false k refl
  behind_unparked Spent k = refl

  still : (u : ℕ) → member u s.order ≡ true → unparked (place_at (park t p s).places u) ≡ true → unparked (place_at s.places u) ≡ true
  unfolding park set-aside
  still u h k = by (same u t) (place_after (behind t) set-aside aside_releasable u h)
    where
      by : Same u t → Moved (behind t) set-aside u → unparked (place_at s.places u) ≡ true
      by (equal z _) m = ap unparked (ap (place_at s.places) z ∙ queued)
      by (different n _) (unmoved f) = rw (← elsewhere u n, ← f) k
      by (different n _) (chosen f) = rw (← elsewhere u n) (behind_unparked (place_at (set s.places t p) u) f)

  gone : unparked (place_at (park t p s).places t) ≡ false
  unfolding park set-aside
  gone = by (place_after (behind t) set-aside aside_releasable t top.listed)
    where
      not_behind : (r : Place) → unparked r ≡ false → behind t r ≡ true → ⊥
      not_behind Queue a k = clash true refl a
      not_behind (Behind q) a k = clash true refl a
      not_behind (On n) a k = clash false k refl
      not_behind Stalled a k = clash false k refl
      not_behind Spent a k = clash false k refl

      by : Moved (behind t) set-aside t → unparked (place_at (release (behind t) set-aside).places t) ≡ false
      by (unmoved f) = rw (f, at_t) aside
      by (chosen f) = absurd (not_behind p aside (rw at_t at f))

  -- one less to look at
  pub park_fewer : unparked_in (park t p s) < unparked_in s
  park_fewer =
      let same_order = ap (λ (q : Plain). q.order) park_forget in
      rw same_order
      (how_many_fewer (λ u. unparked (place_at (park t p s).places u)) (λ u. unparked (place_at s.places u)) s.order still t
      top.listed
      gone (ap unparked queued))
