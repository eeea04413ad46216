-- The record of a listed timeslice changes and its owner stays: what is left of it, at a charge or a refill, or its priority, at a rank.
use Prim.Native.Nat.{ℕ, ◌<◌, ◌≤◌}
use mathlib.Core.Path.{◌≡◌, refl, ap, ◌∙◌}
use mathlib.Core.List.{List}
use mathlib.Core.Bool.{true}
use lib.ListN.{length, set, length-set}
use lib.Seq.{get_or-set_same, get_or-set_other}
use lib.Dec.{leb}
use borrow.Author.Tests.{leb-true, le-leb}
use Rattle.rules.specs.Tests.{member, distinct}
use Rattle.rules.specs.declared.Slice.{Slice}
use Rattle.rules.specs.State.{State, limit, free_slice, slice_at, owner_at}
use Rattle.rules.specs.Order.{stands_above}
use Rattle.rules.specs.Timeslices.{with_left, with_priority, to_back}
use Rattle.rules.specs.Sound.{in_range}
use Rattle.rules.proofs.Basics.Views.{clash, Same, equal, different, same, and4}
use Rattle.rules.proofs.Order.Orders.{above_back, member_back, distinct_back}
use Rattle.rules.proofs.Soundness.Places.{Mid}
use Rattle.rules.proofs.Choosing.Slices.{Retimed}

-- the table with the record y at t, read at a number
module _ (ss : List Slice) (t : ℕ) (y : Slice) (small : t < length ss) where
  pub rewritten_now : slice_at (set ss t y) t ≡ y
  rewritten_now = get_or-set_same ss t y free_slice small

  pub rewritten_others : (u : ℕ) → (u ≡ t → ⊥) → slice_at (set ss t y) u ≡ slice_at ss u
  rewritten_others u n = get_or-set_other ss t u y free_slice n

  -- a field that y has as it was is everywhere as it was
  pub field_kept : (f : Slice → ℕ) → f y ≡ f (slice_at ss t) → (u : ℕ) → f (slice_at (set ss t y) u) ≡ f (slice_at ss u)
  field_kept f e u = by (same u t)
    where
      by : Same u t → f (slice_at (set ss t y) u) ≡ f (slice_at ss u)
      by (equal z _) = rw z (ap f rewritten_now ∙ e)
      by (different n _) = ap f (rewritten_others u n)

-- a timeslice in range stays so with another `left` up to its quantum, and with another priority up to 255
pub record Range (x : Slice) : Type 0 where
  pub least : 1 ≤ x.quantum
  pub bound : x.quantum ≤ 65535
  pub most : x.left ≤ x.quantum
  pub leaves : (k : ℕ) → k ≤ x.quantum → in_range (with_left k x) ≡ true
  pub ranks : (k : ℕ) → k ≤ 255 → in_range (with_priority k x) ≡ true

range_of : (x : Slice) → in_range x ≡ true → Range x
range_of x e =
    let z = and4 (leb x.priority 255) (leb 1 x.quantum) (leb x.quantum 65535) (leb x.left x.quantum) e in
    record {
      least = leb-true 1 x.quantum z.1;
      bound = leb-true x.quantum 65535 z.2;
      most = leb-true x.left x.quantum z.3;
      leaves = λ k m. rw (z.0, z.1, z.2, le-leb k x.quantum m);
      ranks = λ k m. rw (le-leb k 255 m, z.1, z.2, z.3);
    }

-- of a listed timeslice
module _ {s : State} (x : Mid s) (t : ℕ) (listed : member t s.order ≡ true) where
  small : t < limit
  small = x.shape.turns.small t listed

  pub in_table : t < length s.slices
  in_table = rw x.shape.turns.full small

  pub range : Range (slice_at s.slices t)
  range = range_of (slice_at s.slices t) (x.shape.turns.range t listed)

  -- another record of the same owner is a change of one timeslice,
  module _ (y : Slice) (owner : y.owner ≡ owner_at s.slices t) (in-range : in_range y ≡ true) where
    -- in an order of the same members
    retimed_in : (order' : List ℕ) → distinct order' ≡ true → ((u : ℕ) → member u order' ≡ member u s.order)
        → ((a b : ℕ) → (a ≡ t → ⊥) → (b ≡ t → ⊥) → stands_above s.slices order' a b ≡ stands_above s.slices s.order a b)
        → Retimed s.threads s.slices (set s.slices t y) s.order order' t
    retimed_in order' d members above =
        let ss = s.slices in
        let turns = x.shape.turns in
        let now = rewritten_now ss t y in_table in
        let kept : owner_at (set ss t y) t ≡ owner_at ss t = ap (λ (z : Slice). z.owner) now ∙ owner in
        record {
          full = length-set ss t y;
          once = d;
          small = small;
          range = λ _. ap in_range now ∙ in-range;
          live = λ _. rw kept (turns.owner t listed);
          own = λ _ u h n e. n (turns.owners u t h listed (e ∙ kept));
          gone = λ n. clash (member t order') (members t ∙ listed) n;
          listed = λ u n. members u;
          others = rewritten_others ss t y in_table;
          above = above;
        }

    -- in the order of before
    pub retimed_here : Retimed s.threads s.slices (set s.slices t y) s.order s.order t
    retimed_here = retimed_in s.order x.shape.turns.once (λ u. refl) (λ a b na nb. refl)

    -- at the back: the others keep their order among themselves
    pub retimed_back : Retimed s.threads s.slices (set s.slices t y) s.order (to_back t s.order) t
    retimed_back =
        retimed_in (to_back t s.order) (distinct_back t s.order x.shape.turns.once)
        (λ u. member_back t u s.order listed) (above_back s.slices t s.order)
