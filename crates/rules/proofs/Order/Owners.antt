-- A thread's own timeslice: a search of the turn order finds it, or the thread owns none.
use Prim.Native.Nat.{ℕ}
use mathlib.Core.Path.{◌≡◌, refl}
use mathlib.Core.List.{List, [], ◌∷◌}
use mathlib.Core.Bool.{true, false}
use mathlib.Core.Option.{none, some}
use lib.Dec.{eqb}
use borrow.Author.Tests.{eqb-true, eqb-false}
use Rattle.rules.specs.Tests.{member}
use Rattle.rules.specs.declared.Slice.{Slice}
use Rattle.rules.specs.State.{owner_at}
use Rattle.rules.specs.Timeslices.{own_of}
use Rattle.rules.specs.Refusals.{is_one}
use Rattle.rules.proofs.Basics.Views.{Two, yes_true, no_false, two, clash}
use Rattle.rules.proofs.Basics.Members.{not_listed, member_here, member_there, each}

pub data Own (ss : List Slice) (n : ℕ) (order : List ℕ) : Type 0 where
  owns : (t : ℕ) → own_of ss n order ≡ some t → member t order ≡ true → owner_at ss t ≡ n → Own ss n order
  owns_none : own_of ss n order ≡ none → ((u : ℕ) → member u order ≡ true → owner_at ss u ≡ n → ⊥) → Own ss n order

own_after : (ss : List Slice) (n x : ℕ) (xs : List ℕ) → eqb (owner_at ss x) n ≡ false → Own ss n xs → Own ss n (x ∷ xs)
unfolding own_of
own_after ss n x xs e (owns t f h o) = owns t (rw e f) (member_there t x xs h) o
own_after ss n x xs e (owns_none f others) =
    owns_none (rw e f)
    (λ u h. each (λ k. owner_at ss k ≡ n → ⊥) u x xs (eqb-false (owner_at ss x) n e) (others u) h)

pub own : (ss : List Slice) (n : ℕ) (order : List ℕ) → Own ss n order
unfolding own_of
own ss n [] = owns_none refl (λ u h. clash (member u []) h (not_listed u))
own ss n (x ∷ xs) = by (own ss n xs) (two (eqb (owner_at ss x) n))
  where
    by : Own ss n xs → Two (eqb (owner_at ss x) n) → Own ss n (x ∷ xs)
    by rest (yes_true e) = owns x (rw e refl) (member_here x x xs refl) (eqb-true (owner_at ss x) n e)
    by rest (no_false e) = own_after ss n x xs e rest

-- what is found is listed
pub own_listed : (ss : List Slice) (n : ℕ) (order : List ℕ) (t : ℕ) → own_of ss n order ≡ some t → member t order ≡ true
own_listed ss n order t e = by (own ss n order)
  where
    by : Own ss n order → member t order ≡ true
    by (owns u f h o) = let z : u ≡ t = cc in rw (← z) h
    by (owns_none f others) = cc

-- as the refusal has it
pub none_owned : (ss : List Slice) (n : ℕ) (order : List ℕ) → is_one (own_of ss n order) ≡ false
    → (u : ℕ) → member u order ≡ true → owner_at ss u ≡ n → ⊥
none_owned ss n order e = by (own ss n order)
  where
    by : Own ss n order → (u : ℕ) → member u order ≡ true → owner_at ss u ≡ n → ⊥
    by (owns t f h o) = clash true refl (rw f at e)
    by (owns_none f others) = others
