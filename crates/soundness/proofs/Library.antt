-- The library's methods that call a closure at each number below a bound, or at each entry of an array: what they answer where the
-- closure computes a function.
use Prim.Native.Nat.{ℕ, zero, suc, ◌+◌, ◌≤◌, ◌<◌}
use mathlib.Core.Path.{◌≡◌, sym, ◌∙◌, ap, subst}
use mathlib.Core.List.{List, map}
use mathlib.Core.Bool.{Bool, true, false, ◌&&◌}
use native.Mathlib.Omega.{arith}
use lib.ListN.{length, get_or, length-map}
use Rattle.std.specs.Prelude.{Option, Some, None, IfSome, IsSomeAnd}
use Rattle.std.specs.Option.{option_map}
use native.Mathlib.Nat.{eq-or-lt_of_le}
use mathlib.Core.Logic.{⊎_elim}
use Rattle.std.specs.Fn.{Mut, Called}
use Rattle.std.specs.Bool.{MatchBool, IsTrue}
use Rattle.std.specs.Array.{MapsFrom, IsMapOf}
use Rattle.std.specs.Iterator.Runs.{SomeRun, AllItemsGive, AnyItemGives, CallKeepsClosure}
use Rattle.std.specs.declared.ops.Range.{Range}
use Rattle.std.proofs.iter.Yields.{nat_range_steps}
use Rattle.std.proofs.iter.runs.Sources.{range_runs}
use Rattle.std.proofs.lemmas.List.{ext_get_or, get_or-map}
use Rattle.rules.specs.Tests.{below}
use Rattle.rules.specs.State.{limit}
use Rattle.rules.proofs.Basics.Views.{and_false_right}
use Rattle.rules.proofs.Basics.Members.{below_of}

-- at each entry of an array
module _ {F : Type 0} (g : Mut F (ℕ × Unit {0}) ℕ) (f : F) (h : ℕ → ℕ)
    (calls : (x y : ℕ) (q : F) → Called g f (x, tt) y q → (y ≡ h x) × (q ≡ f)) (xs ys : List ℕ) where
  entry : (n i : ℕ) → MapsFrom g f xs ys i n → (k : ℕ) → i ≤ k → k < i + n → get_or ys k 0 ≡ h (get_or xs k 0)
  entry zero i m k low high = absurd (omega arith)
  entry (suc n) i (q, x, y, at, is, called, rest) k low high =
      let said = calls x y q called in
      let this : get_or ys i 0 ≡ h (get_or xs i 0) = is.1 0 ∙ said.0 ∙ ap h (sym (at.1 0)) in
      ⊎_elim (λ same. subst (λ j. get_or ys j 0 ≡ h (get_or xs j 0)) same this)
      (λ more. entry n (i + 1) (subst (λ p. MapsFrom g p xs ys (i + 1) n) said.1 rest) k (omega arith) (omega arith)) (eq-or-lt_of_le low)

  pub mapped : (n : ℕ) → length xs ≡ n → IsMapOf g f xs ys n → ys ≡ map h xs
  mapped n long m =
      ext_get_or 0 ys (map h xs) (m.long ∙ sym (length-map xs h ∙ long))
      (λ i short. let within : i < length xs = omega (arith, m.long, long) in
      entry n 0 m.each i (omega arith) (omega (arith, long)) ∙ sym (get_or-map h xs i 0 0 within))

-- a number fails
below_no : (f : ℕ → Bool) (m n : ℕ) → n < m → f n ≡ false → below m f ≡ false
unfolding below
below_no f zero n h e = absurd (omega arith)
below_no f (suc m) n h e =
    let le : n ≤ m = omega arith in
    ⊎_elim (λ same. and_false_right (below m f) (f m) (ap f (sym same) ∙ e)) (λ less. ap (λ (b : Bool). b && f m) (below_no f m n less e))
    (eq-or-lt_of_le le)

-- the item at a place of the range
module _ (P : ℕ → Type 0) (n : ℕ) where
  of_item : (o : Option ℕ) → option_map (λ y. y) o ≡ Some n → IfSome o P → P n
  of_item (Some x) e h = subst P (cc e) h
  of_item None e h = absurd (cc e)

  some_item : (o : Option ℕ) → option_map (λ y. y) o ≡ Some n → IsSomeAnd o P → P n
  some_item (Some x) e h = subst P (cc e) h
  some_item None e h = absurd h

-- at each number below 128
module _ {F : Type 0} (g : Mut F (ℕ × Unit {0}) Bool) (f : F) (test : ℕ → Bool) (keeps : CallKeepsClosure g f)
    (calls : (n : ℕ) (r : Bool) → Called g f (n, tt) r f → r ≡ test n) where
  pub all_below : (s : Range ℕ) (r : Bool) → s.start ≡ 0 → s.end ≡ 128
      → SomeRun nat_range_steps s (λ p. MatchBool r (IsTrue p.whole × AllItemsGive p g f true) (AnyItemGives p g f false))
      → r ≡ below limit test
  all_below s true first past (p, from, met) =
      let counted = range_runs p p.seen in
      let start : p.from.start ≡ 0 = ap (λ (t : Range ℕ). t.start) from ∙ first in
      let end : p.from.end ≡ 128 = ap (λ (t : Range ℕ). t.end) from ∙ past in
      let len = counted.1 met.0 in
      sym (below_of test limit (λ n short.
      let is : option_map (λ y. y) (p.at n) ≡ Some n = counted.3 n (omega (arith, len, start, end)) ∙ ap Some (omega (arith, start)) in
      sym (calls n true (of_item (λ x. Called g f (x, tt) true f) n (p.at n) is (met.1 keeps n)))))
  all_below s false first past (p, from, any) =
      let counted = range_runs p p.seen in
      let start : p.from.start ≡ 0 = ap (λ (t : Range ℕ). t.start) from ∙ first in
      let end : p.from.end ≡ 128 = ap (λ (t : Range ℕ). t.end) from ∙ past in
      let one = any keeps in
      let is : option_map (λ y. y) (p.at one.0) ≡ Some one.0 = counted.3 one.0 one.1 ∙ ap Some (omega (arith, start)) in
      let fails = calls one.0 false (some_item (λ x. Called g f (x, tt) false f) one.0 (p.at one.0) is one.2) in
      sym (below_no test 128 one.0 (omega (arith, one.1, counted.0, start, end)) (sym fails))
