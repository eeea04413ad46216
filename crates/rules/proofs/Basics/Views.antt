-- Case analysis on computed tests: antt has no `with`, so a test is handed to a function by clauses as one of these views.
use Prim.Native.Nat.{ℕ}
use mathlib.Core.Path.{◌≡◌, refl}
use mathlib.Core.Bool.{Bool, true, false, ◌&&◌, ◌||◌}
use native.Mathlib.Omega.{arith}
use lib.Dec.{eqb}
use borrow.Author.Tests.{eqb-true, eqb-false}
use Rattle.rules.specs.Tests.{agree}

-- a Bool with the equation that says which it is
pub data Two (b : Bool) : Type 0 where
  yes_true : b ≡ true → Two b
  no_false : b ≡ false → Two b

pub two : (b : Bool) → Two b
two true = yes_true refl
two false = no_false refl

-- a test is not both
pub clash {ℓ} : {A : Type ℓ} (b : Bool) → b ≡ true → b ≡ false → A
clash b p q = let z : ◌≡◌ {A = ℕ} 0 1 = cc in absurd (omega arith)

-- what is not true is false
pub is_false : (b : Bool) → (b ≡ true → ⊥) → b ≡ false
is_false true f = absurd (f refl)
is_false false f = refl

-- two numbers, equal or not, with what their test says
pub data Same (a b : ℕ) : Type 0 where
  equal : a ≡ b → eqb a b ≡ true → Same a b
  different : (a ≡ b → ⊥) → eqb a b ≡ false → Same a b

same_by : (a b : ℕ) → Two (eqb a b) → Same a b
same_by a b (yes_true e) = equal (eqb-true a b e) e
same_by a b (no_false e) = different (eqb-false a b e) e

pub same : (a b : ℕ) → Same a b
same a b = same_by a b (two (eqb a b))

-- conjunction
pub and_true_left : (a b : Bool) → (a && b) ≡ true → a ≡ true
and_true_left true b e = refl
and_true_left false b e = e

pub and_true_right : (a b : Bool) → (a && b) ≡ true → b ≡ true
and_true_right true b e = e
and_true_right false b e = clash false e refl

pub and_true_both : (a b : Bool) → a ≡ true → b ≡ true → (a && b) ≡ true
and_true_both a b p q = rw (p, q)

pub and_false_left : (a b : Bool) → a ≡ false → (a && b) ≡ false
and_false_left a b p = rw p

pub and_false_right : (a b : Bool) → b ≡ false → (a && b) ≡ false
and_false_right true b q = q
and_false_right false b q = refl

-- the parts of a conjunction
pub and3 : (a b c : Bool) → (a && b && c) ≡ true → (a ≡ true) × (b ≡ true) × (c ≡ true)
and3 a b c e =
    let ab = and_true_left (a && b) c e in
    (and_true_left a b ab, and_true_right a b ab, and_true_right (a && b) c e)

pub and4 : (a b c d : Bool) → (a && b && c && d) ≡ true → (a ≡ true) × (b ≡ true) × (c ≡ true) × (d ≡ true)
and4 a b c d e =
    let x = and3 (a && b) c d e in
    (and_true_left a b x.0, and_true_right a b x.0, x.1, x.2)

pub and5 : (a b c d f : Bool) → (a && b && c && d && f) ≡ true → (a ≡ true) × (b ≡ true) × (c ≡ true) × (d ≡ true) × (f ≡ true)
and5 a b c d f e =
    let x = and4 (a && b) c d f e in
    (and_true_left a b x.0, and_true_right a b x.0, x.1, x.2, x.3)

-- disjunction
pub data Either (a b : Bool) : Type 0 where
  first : a ≡ true → Either a b
  second : a ≡ false → b ≡ true → Either a b

pub or_true_cases : (a b : Bool) → (a || b) ≡ true → Either a b
or_true_cases true b e = first refl
or_true_cases false b e = second refl e

pub or_true_left : (a b : Bool) → a ≡ true → (a || b) ≡ true
or_true_left a b p = rw p

pub or_true_right : (a b : Bool) → b ≡ true → (a || b) ≡ true
or_true_right true b p = refl
or_true_right false b p = p

pub or_false_left : (a b : Bool) → (a || b) ≡ false → a ≡ false
or_false_left true b e = e
or_false_left false b e = refl

pub or_false_right : (a b : Bool) → (a || b) ≡ false → b ≡ false
or_false_right true b e = clash true refl e
or_false_right false b e = e

pub or_false_both : (a b : Bool) → (a || b) ≡ false → (a ≡ false) × (b ≡ false)
or_false_both a b e = (or_false_left a b e, or_false_right a b e)

-- two tests agree if they are equal
pub agree_is : (a b : Bool) → agree a b ≡ true → a ≡ b
agree_is true true e = refl
agree_is true false e = clash false e refl
agree_is false true e = clash false e refl
agree_is false false e = refl

pub is_agree : (a b : Bool) → a ≡ b → agree a b ≡ true
is_agree true b e = rw (← e)
is_agree false b e = rw (← e)
