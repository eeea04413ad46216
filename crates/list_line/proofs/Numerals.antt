-- Words by their bytes: digits, the number that they make, and names.
use Prim.Native.Nat.{ℕ, suc, ◌+◌, ◌-◌, ◌*◌, ◌≤◌, ◌<◌, min}
use native.Mathlib.Omega.{arith}
use native.Mathlib.Numerals.{add-one}
use mathlib.Core.Path.{◌≡◌, refl, sym, ap, ◌∙◌}
use mathlib.Core.Bool.{Bool, true, false, ◌&&◌}
use mathlib.Core.List.{List, [], ◌∷◌}
use lib.ListN.{length, get_or, drop, drop_of_length-le}
use lib.Seq.{drop-cons}
use lib.Dec.{leb, eqb}
use borrow.Author.Tests.{leb-true, leb-false, eq-eqb, ne_eqb}
use Rattle.rules.proofs.Basics.Views.{Two, yes_true, no_false, two}
use Rattle.rules.specs.Tests.{all}
use Rattle.std.specs.Str.{bytes_eq}
use Rattle.list_line.specs.Reading.{same, digit_byte, value_from, value}

-- digits only add
pub grows : (l : List ℕ) (n : ℕ) → n ≤ value_from n l
unfolding value_from
grows [] n = omega arith
grows (b ∷ rest) n = omega (arith, grows rest (n * 10 + (b - 48)))

-- a word is another, in std's words
pub same_is : (a b : List ℕ) → bytes_eq a b ≡ same a b
unfolding same
same_is [] [] = refl
same_is [] (y ∷ ys) = refl
same_is (x ∷ xs) [] = refl
same_is (x ∷ xs) (y ∷ ys) = ap (λ (c : Bool). eqb x y && c) (same_is xs ys)

-- two words at a place
module _ (a b : List ℕ) (i : ℕ) (inside : i < length a) (inside' : i < length b) where
  pub same_next : get_or a i 0 ≡ get_or b i 0 → same (drop i a) (drop i b) ≡ same (drop (i + 1) a) (drop (i + 1) b)
  unfolding same
  same_next e = rw (drop-cons a i 0 inside, drop-cons b i 0 inside', eq-eqb _ _ e, add-one) refl

  pub same_not : (get_or a i 0 ≡ get_or b i 0 → ⊥) → same (drop i a) (drop i b) ≡ false
  unfolding same
  same_not e = rw (drop-cons a i 0 inside, drop-cons b i 0 inside', ne_eqb _ _ e) refl

pub same_over : (a b : List ℕ) (i : ℕ) → length a ≤ i → length b ≤ i → same (drop i a) (drop i b) ≡ true
unfolding same
same_over a b i h g = rw (drop_of_length-le a h, drop_of_length-le b g) refl

and_false : (a b : Bool) → b ≡ false → (a && b) ≡ false
and_false true b e = e
and_false false b e = refl

pub same_lengths : (a b : List ℕ) → (length a ≡ length b → ⊥) → same a b ≡ false
unfolding same
same_lengths [] [] h = absurd (h refl)
same_lengths [] (y ∷ ys) h = refl
same_lengths (x ∷ xs) [] h = refl
same_lengths (x ∷ xs) (y ∷ ys) h = and_false (eqb x y) (same xs ys) (same_lengths xs ys (λ e. h (ap suc e)))

both_true : (a b : Bool) → (a && b) ≡ true → (a ≡ true) × (b ≡ true)
both_true true b e = (refl, e)
both_true false b e = cc

-- 48 to 57
pub record Digit (b : ℕ) : Type 0 where
  pub low : 48 ≤ b
  pub high : b ≤ 57

is_digit : (b : ℕ) → digit_byte b ≡ true → Digit b
is_digit b e =
    let both = both_true (leb 48 b) (leb b 57) e in
    record { low = leb-true 48 b both.0; high = leb-true b 57 both.1 }

-- what passes 65,535 stays above it, whatever digits follow: it may as well be 65,536
capped : (l : List ℕ) (m : ℕ) → Two (leb m 65536) → min (value_from (min m 65536) l) 65536 ≡ min (value_from m l) 65536
capped l m (yes_true e) =
    let small : min m 65536 ≡ m = omega (arith, leb-true m 65536 e) in
    ap (λ (k : ℕ). min (value_from k l) 65536) small
capped l m (no_false e) =
    let large : min m 65536 ≡ 65536 = omega (arith, leb-false m 65536 e) in
    ap (λ (k : ℕ). min (value_from k l) 65536) large
    ∙ omega (arith, grows l 65536, grows l m, leb-false m 65536 e)

-- so far n, and the bytes from a place on
pub record Reads (word : List ℕ) (i n : ℕ) : Type 0 where
  pub digits : all digit_byte (drop i word) ≡ all digit_byte word
  pub whole : min (value_from n (drop i word)) 65536 ≡ min (value word) 65536
  pub bounded : n ≤ 65536

pub none_read : (word : List ℕ) → Reads word 0 0
unfolding value
none_read word = record { digits = refl; whole = refl; bounded = omega arith }

module _ {word : List ℕ} {i n : ℕ} (r : Reads word i n) where
  module _ (inside : i < length word) where
    pub digit_read : digit_byte (get_or word i 0) ≡ true → {m : ℕ} → m ≡ min (n * 10 + (get_or word i 0 - 48)) 65536
        → Reads word (i + 1) m
    unfolding all value_from
    digit_read e {m} is =
        let next = n * 10 + (get_or word i 0 - 48) in
        let bytes : drop i word ≡ get_or word i 0 ∷ drop (suc i) word = drop-cons word i 0 inside in
        let digits : all digit_byte (drop (suc i) word) ≡ all digit_byte word = rw (bytes, e) at r.digits in
        let whole : min (value_from next (drop (suc i) word)) 65536 ≡ min (value word) 65536 = rw bytes at r.whole in
        record {
          digits = rw add-one digits;
          whole = rw (add-one, is) (capped (drop (suc i) word) next (two (leb next 65536)) ∙ whole);
          bounded = omega (arith, is);
        }

    pub no_digit : digit_byte (get_or word i 0) ≡ false → all digit_byte word ≡ false
    unfolding all
    no_digit e = sym r.digits ∙ rw (drop-cons word i 0 inside, e) refl

  pub all_read : length word ≤ i → (all digit_byte word ≡ true) × (n ≡ min (value word) 65536)
  unfolding all value_from
  all_read out =
      let none : drop i word ≡ [] = drop_of_length-le word out in
      let digits : true ≡ all digit_byte word = rw none at r.digits in
      let whole : min n 65536 ≡ min (value word) 65536 = rw none at r.whole in
      (sym digits, omega (arith, whole, r.bounded))

pub digit_low : (b : ℕ) → digit_byte b ≡ true → 48 ≤ b
digit_low b e = (is_digit b e).low
