-- The test that each step leads back, as a loop: what is left to ask from an entry on is the whole.
use Prim.Native.Nat.{ℕ, zero, suc, ◌+◌, ◌-◌, ◌≤◌, ◌<◌}
use mathlib.Core.Path.{◌≡◌, refl, sym, ◌∙◌}
use mathlib.Core.Bool.{Bool, true, false, ◌&&◌}
use native.Mathlib.Omega.{arith}
use lib.Dec.{ltb, eqb}
use borrow.Author.Tests.{eq-eqb, ne_eqb, lt-ltb, le-ltb}
use Rattle.rules.specs.State.{limit}
use Rattle.neighbours.specs.Sides.{Sides, sentinel, neighbour}
use Rattle.neighbours.specs.Forming.{leads_back}

pub record Asked (s : Sides) (live left at : ℕ) : Type 0 where
  pub whole : leads_back left s at ≡ leads_back live s sentinel

pub ask_all : (s : Sides) (live : ℕ) → Asked s live live sentinel
ask_all s live = record { whole = refl }

module _ (s : Sides) (live left at : ℕ) where
  -- one step
  step : (t : ℕ) → 0 < left → t ≡ neighbour s.after at
      → leads_back left s at ≡ (ltb t limit && eqb (neighbour s.before t) at && leads_back (left - 1) s t)
  unfolding leads_back
  step t some e = go left some
    where
      go : (n : ℕ) → 0 < n → leads_back n s at ≡ (ltb t limit && eqb (neighbour s.before t) at && leads_back (n - 1) s t)
      go zero h = absurd (omega arith)
      go (suc n) h = let less : suc n - 1 ≡ n = omega arith in rw (e, less) refl

  pub not_low : (t : ℕ) → Asked s live left at → 0 < left → t ≡ neighbour s.after at → limit ≤ t → false ≡ leads_back live s sentinel
  not_low t a some e high = sym (step t some e ∙ rw (le-ltb t limit high) refl) ∙ a.whole

  pub not_back : (t u : ℕ) → Asked s live left at → 0 < left → t ≡ neighbour s.after at → u ≡ neighbour s.before t → (u ≡ at → ⊥)
      → false ≡ leads_back live s sentinel
  not_back t u a some e back other =
      sym (step t some e ∙ rw (← back, ne_eqb u at other) (nowhere (ltb t limit))) ∙ a.whole
    where
      nowhere : (b : Bool) → (b && false && leads_back (left - 1) s t) ≡ false
      nowhere true = refl
      nowhere false = refl

  -- after the last step
  close : left ≤ 0 → leads_back left s at ≡ (eqb (neighbour s.after at) sentinel && eqb (neighbour s.before sentinel) at)
  unfolding leads_back
  close none_left = let z : left ≡ 0 = omega arith in rw z refl

  pub not_closed : (t : ℕ) → Asked s live left at → left ≤ 0 → t ≡ neighbour s.after at → (t ≡ sentinel → ⊥)
      → false ≡ leads_back live s sentinel
  not_closed t a none_left e other = sym (close none_left ∙ rw (← e, ne_eqb t sentinel other) refl) ∙ a.whole

  pub closed : (t u : ℕ) → Asked s live left at → left ≤ 0 → t ≡ neighbour s.after at → t ≡ sentinel → u ≡ neighbour s.before sentinel
      → eqb u at ≡ leads_back live s sentinel
  closed t u a none_left e this back = sym (close none_left ∙ rw (← e, eq-eqb t sentinel this, ← back) refl) ∙ a.whole

-- in turn i of the loop `for _ in 0..live`
pub goes_on : (s : Sides) (live i at : ℕ) (t u : ℕ) → Asked s live (live - i) at → i < live → t ≡ neighbour s.after at → t < limit
    → u ≡ neighbour s.before t → u ≡ at → Asked s live (live - (i + 1)) t
goes_on s live i at t u a some e low back this =
    let less : live - (i + 1) ≡ live - i - 1 = omega arith in
    record {
      whole =
          rw less (sym (step s live (live - i) at t (omega arith) e ∙ rw (lt-ltb t limit low, ← back, eq-eqb u at this) refl) ∙ a.whole);
    }
