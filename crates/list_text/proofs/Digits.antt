-- Decimals and their values undo each other: a decimal's value is its number, and digits without a leading zero are their value's decimal.
use Prim.Native.Nat.{ℕ, zero, suc, ◌+◌, ◌-◌, ◌*◌, ◌/◌, ◌%◌, ◌≤◌, ◌<◌}
use native.Mathlib.Omega.{arith}
use mathlib.Core.Path.{◌≡◌, refl, sym, ap, ap₂, ◌∙◌}
use mathlib.Core.Bool.{Bool, true, false, not, ◌&&◌}
use mathlib.Core.List.{List, [], ◌∷◌, ◌++◌, append-nil, append_assoc}
use lib.Dec.{leb, ltb}
use borrow.Author.Tests.{le-leb, leb-true, ltb-true, ltb-false}
use Rattle.rules.specs.Tests.{all}
use Rattle.rules.specs.Key.{digit, decimal}
use Rattle.rules.proofs.Basics.Views.{Two, yes_true, no_false, two, and_true_left, and_true_right, and_true_both, Same, equal, different}
use Rattle.rules.proofs.Basics.Views.{same}
use Rattle.rules.proofs.Basics.Members.{all_head, all_tail}
use Rattle.text.proofs.Decimals.{one_digit, last_digit}
use Rattle.list_line.specs.Reading.{digit_byte, value_from, value}
use Rattle.list_text.specs.Form.{leading_zero, is_empty}

pub all_append : (f : ℕ → Bool) (a b : List ℕ) → all f a ≡ true → all f b ≡ true → all f (a ++ b) ≡ true
unfolding all
all_append f [] b h g = g
all_append f (x ∷ a) b h g =
    and_true_both (f x) (all f (a ++ b)) (and_true_left (f x) (all f a) h) (all_append f a b (and_true_right (f x) (all f a) h) g)

value_append : (n : ℕ) (a b : List ℕ) → value_from n (a ++ b) ≡ value_from (value_from n a) b
unfolding value_from
value_append n [] b = refl
value_append n (x ∷ a) b = value_append (n * 10 + (x - 48)) a b

is_digit : (k : ℕ) → k < 10 → digit_byte (digit k) ≡ true
is_digit k h = and_true_both (leb 48 (digit k)) (leb (digit k) 57) (le-leb 48 (digit k) (omega arith)) (le-leb (digit k) 57 (omega arith))

-- what a decimal says
record Spelt (n : ℕ) (word : List ℕ) : Type 0 where
  digits : all digit_byte word ≡ true
  number : value_from 0 word ≡ n

spelt_by : (k n : ℕ) → ((m : ℕ) → m < k → Spelt m (decimal m)) → n < suc k → Two (ltb n 10) → Spelt n (decimal n)
unfolding all value_from
spelt_by k n shorter h (yes_true t) =
    let small = ltb-true n 10 t in
    rw (one_digit n small)
    record {
      digits = and_true_both (digit_byte (digit (n % 10))) true (is_digit (n % 10) (omega arith)) refl;
      number = omega arith;
    }
spelt_by k n shorter h (no_false t) =
    let large = ltb-false n 10 t in
    let front = shorter (n / 10) (omega arith) in
    let d = digit (n % 10) in
    rw (last_digit n large)
    record {
      digits =
          all_append digit_byte (decimal (n / 10)) (d ∷ []) front.digits
          (and_true_both (digit_byte d) true (is_digit (n % 10) (omega arith)) refl);
      number = value_append 0 (decimal (n / 10)) (d ∷ []) ∙ rw front.number (omega arith);
    }

spelt_below : (k n : ℕ) → n < k → Spelt n (decimal n)
spelt_below zero n h = absurd (omega arith)
spelt_below (suc k) n h = spelt_by k n (spelt_below k) h (two (ltb n 10))

pub decimal_digits : (n : ℕ) → all digit_byte (decimal n) ≡ true
decimal_digits n = (spelt_below (suc n) n (omega arith)).digits

pub decimal_value : (n : ℕ) → value (decimal n) ≡ n
unfolding value
decimal_value n = (spelt_below (suc n) n (omega arith)).number

ends_some : (a : List ℕ) (b : ℕ) → is_empty (a ++ (b ∷ [])) ≡ false
ends_some [] b = refl
ends_some (x ∷ a) b = refl

pub decimal_some : (n : ℕ) → is_empty (decimal n) ≡ false
decimal_some n = by (two (ltb n 10))
  where
    by : Two (ltb n 10) → is_empty (decimal n) ≡ false
    by (yes_true t) = rw (one_digit n (ltb-true n 10 t)) refl
    by (no_false t) = rw (last_digit n (ltb-false n 10 t)) (ends_some (decimal (n / 10)) (digit (n % 10)))

-- digits after a number that is not 0 are its decimal's next digits
pub digit_bounds : (b : ℕ) → digit_byte b ≡ true → (48 ≤ b) × (b ≤ 57)
digit_bounds b e =
    (leb-true 48 b (and_true_left (leb 48 b) (leb b 57) e), leb-true b 57 (and_true_right (leb 48 b) (leb b 57) e))

one_more : (n b : ℕ) → 1 ≤ n → 48 ≤ b → b ≤ 57 → decimal (n * 10 + (b - 48)) ≡ decimal n ++ (b ∷ [])
one_more n b some low high =
    let m = n * 10 + (b - 48) in
    let tens : m / 10 ≡ n = omega arith in
    let unit : digit (m % 10) ≡ b = omega arith in
    last_digit m (omega arith) ∙ ap₂ (λ (t d : ℕ). decimal t ++ (d ∷ [])) tens unit

spelt_after : (n : ℕ) (l : List ℕ) → 1 ≤ n → all digit_byte l ≡ true → decimal (value_from n l) ≡ decimal n ++ l
unfolding all value_from
spelt_after n [] some h = sym (append-nil (decimal n))
spelt_after n (b ∷ rest) some h =
    let bounds = digit_bounds b (and_true_left (digit_byte b) (all digit_byte rest) h) in
    spelt_after (n * 10 + (b - 48)) rest (omega arith) (and_true_right (digit_byte b) (all digit_byte rest) h)
    ∙ ap (λ (l : List ℕ). l ++ rest) (one_more n b some bounds.0 bounds.1) ∙ append_assoc (decimal n) (b ∷ []) rest

single : (b : ℕ) → 48 ≤ b → b ≤ 57 → decimal (b - 48) ≡ b ∷ []
single b low high = one_digit (b - 48) (omega arith) ∙ ap (λ (d : ℕ). d ∷ []) (let same : digit ((b - 48) % 10) ≡ b = omega arith in same)

-- a number without a leading zero
first_not_zero : (b c : ℕ) (rest : List ℕ) → all digit_byte (b ∷ c ∷ rest) ≡ true → not (leading_zero (b ∷ c ∷ rest)) ≡ true → Same b 48
    → b ≡ 48 → ⊥
first_not_zero b c rest h e (equal z t) same =
    let bad : not (true && true) ≡ true = rw (t, h) at e in
    let z : ◌≡◌ {A = ℕ} 0 1 = cc in omega arith
first_not_zero b c rest h e (different f t) same = f same

pub value_decimal : (word : List ℕ) → (word ≡ [] → ⊥) → all digit_byte word ≡ true → not (leading_zero word) ≡ true
    → decimal (value word) ≡ word
unfolding value value_from
value_decimal [] some h e = absurd (some refl)
value_decimal (b ∷ []) some h e =
    let bounds = digit_bounds b (all_head digit_byte b [] h) in
    let zero_more : 0 * 10 + (b - 48) ≡ b - 48 = omega arith in
    rw zero_more (single b bounds.0 bounds.1)
value_decimal (b ∷ c ∷ rest) some h e =
    let bounds = digit_bounds b (all_head digit_byte b (c ∷ rest) h) in
    let not-zero : b ≡ 48 → ⊥ = first_not_zero b c rest h e (same b 48) in
    let zero_more : 0 * 10 + (b - 48) ≡ b - 48 = omega arith in
    rw zero_more
    (spelt_after (b - 48) (c ∷ rest) (omega arith) (all_tail digit_byte b (c ∷ rest) h)
    ∙ ap (λ (l : List ℕ). l ++ (c ∷ rest)) (single b bounds.0 bounds.1))
