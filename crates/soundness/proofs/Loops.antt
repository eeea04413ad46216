-- The loops of the test: along the turn order, ending at the first that fails.
use Prim.Native.Nat.{ℕ, suc, ◌+◌, ◌-◌, ◌≤◌, ◌<◌}
use mathlib.Core.Path.{◌≡◌, refl, sym, ◌∙◌}
use mathlib.Core.List.{List}
use mathlib.Core.Bool.{Bool, true, false}
use native.Mathlib.Omega.{arith}
use lib.ListN.{length, get_or, take, drop}
use Rattle.rules.specs.Tests.{member, distinct, all}
use Rattle.tables.proofs.Along.{Along, here, next, out}
use Rattle.neighbours.specs.Sides.{neighbour}
use Rattle.neighbours.specs.Reading.{turns_read}
use Rattle.neighbours.proofs.Stepping as steps

-- along the turn order, of whose `last` entries so many have been passed
module _ (f : ℕ → Bool) (after : List ℕ) (live last passed at : ℕ) (a : steps.Along (λ l. all f l) after live (last - passed) at) where
  module _ (t : ℕ) (short : passed < last) (is : t ≡ neighbour after at) where
    -- a timeslice passes
    pub all_more : f t ≡ true → steps.Along (λ l. all f l) after live (last - (passed + 1)) t
    unfolding all
    all_more passes =
        let less : last - passed - 1 ≡ last - (passed + 1) = omega arith in
        rw less at (steps.next (λ l. all f l) after live (last - passed) at t a (omega arith) is (rw passes refl))

    -- a timeslice fails
    pub all_fails : f t ≡ false → false ≡ all f (turns_read after live)
    unfolding all
    all_fails fails = rw fails at (steps.here (λ l. all f l) after live (last - passed) at t a (omega arith) is)

  pub all_passed : last ≤ passed → true ≡ all f (turns_read after live)
  unfolding all
  all_passed past = steps.out (λ l. all f l) after live (last - passed) at a (omega arith)

-- "once each": no entry stands again after itself
module _ (live : ℕ) (order : List ℕ) (n i : ℕ) (full : length order ≡ 128) (a : Along (λ l. distinct l) live order n i) where
  abbrev again : Bool
  again = member (get_or order i 0) (drop (suc i) (take live order))

  pub once_more : (r : Bool) → i < n → r ≡ again → r ≡ false → Along (λ l. distinct l) live order n (i + 1)
  unfolding distinct
  once_more r short e h = let no : again ≡ false = sym e ∙ h in next (λ l. distinct l) live order n i full a short (rw no refl)

  pub twice : (r : Bool) → i < n → r ≡ again → r ≡ true → false ≡ distinct (take live order)
  unfolding distinct
  twice r short e h = let yes : again ≡ true = sym e ∙ h in rw yes at (here (λ l. distinct l) live order n i full a short)

  pub all_once : n ≤ i → true ≡ distinct (take live order)
  unfolding distinct
  all_once past = out (λ l. distinct l) live order n i full a past
