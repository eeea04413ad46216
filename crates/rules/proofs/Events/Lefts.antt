-- What is left of one timeslice changes, and nothing else of it: it stands as it stood. For charge and refill.
use Prim.Native.Nat.{ℕ, ◌<◌, ◌≤◌}
use mathlib.Core.Path.{◌≡◌, refl, ap}
use mathlib.Core.List.{List}
use mathlib.Core.Bool.{true}
use lib.ListN.{length}
use Rattle.rules.specs.Tests.{member}
use Rattle.rules.specs.declared.Slice.{Slice}
use Rattle.rules.specs.State.{State, slice_at, owner_at, priority_at, left_at}
use Rattle.rules.specs.Order.{stands_above}
use Rattle.rules.specs.Timeslices.{with_left, set_left, to_back}
use Rattle.rules.proofs.Order.Orders.{above_same}
use Rattle.rules.proofs.Soundness.Places.{Mid}
use Rattle.rules.proofs.Choosing.Slices.{Retimed}
use Rattle.rules.proofs.Events.Rewrites.{rewritten_now, rewritten_others, field_kept, range, retimed_here, retimed_back}

-- the table where k is left of timeslice t, read at a number
module _ (ss : List Slice) (t k : ℕ) (small : t < length ss) where
  pub left_others : (u : ℕ) → (u ≡ t → ⊥) → slice_at (set_left t k ss) u ≡ slice_at ss u
  unfolding set_left
  left_others = rewritten_others ss t (with_left k (slice_at ss t)) small

  pub left_is : left_at (set_left t k ss) t ≡ k
  unfolding set_left
  left_is = ap (λ (x : Slice). x.left) (rewritten_now ss t (with_left k (slice_at ss t)) small)

  pub left_owner : (u : ℕ) → owner_at (set_left t k ss) u ≡ owner_at ss u
  unfolding set_left
  left_owner = field_kept ss t (with_left k (slice_at ss t)) small (λ x. x.owner) refl

  pub left_above : (order : List ℕ) (a b : ℕ) → stands_above (set_left t k ss) order a b ≡ stands_above ss order a b
  unfolding set_left
  left_above order a b =
      let priority : (u : ℕ) → priority_at (set_left t k ss) u ≡ priority_at ss u =
      field_kept ss t (with_left k (slice_at ss t)) small (λ x. x.priority) refl in
      above_same (set_left t k ss) ss order a b (priority a) (priority b)

-- of a listed timeslice, up to its quantum
module _ {s : State} (x : Mid s) (t : ℕ) (listed : member t s.order ≡ true) (k : ℕ) (most : k ≤ (slice_at s.slices t).quantum) where
  -- in the order of before
  pub left_changed : Retimed s.threads s.slices (set_left t k s.slices) s.order s.order t
  unfolding set_left
  left_changed = retimed_here x t listed (with_left k (slice_at s.slices t)) refl ((range x t listed).leaves k most)

  -- at the back of the turn order
  pub left_back : Retimed s.threads s.slices (set_left t k s.slices) s.order (to_back t s.order) t
  unfolding set_left
  left_back = retimed_back x t listed (with_left k (slice_at s.slices t)) refl ((range x t listed).leaves k most)
