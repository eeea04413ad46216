-- Decimal numbers, digit by digit.
use Prim.Native.Nat.{ℕ, zero, suc, ◌/◌, ◌%◌, ◌≤◌, ◌<◌}
use native.Mathlib.Omega.{arith}
use mathlib.Core.Path.{◌≡◌, refl, sym, ap, ◌∙◌}
use mathlib.Core.Bool.{Bool, true, false}
use mathlib.Core.List.{List, [], ◌∷◌, ◌++◌, append_assoc}
use lib.Dec.{ltb}
use borrow.Author.Tests.{lt-ltb, le-ltb, ltb-false}
use Rattle.rules.specs.Key.{digit, digits, decimal}
use Rattle.text.specs.Put.{Put}
use Rattle.text.proofs.Puts.{◌then◌, reading}

-- more steps than digits change nothing
enough : (k j n : ℕ) (last : Bool) → last ≡ ltb n 10 → n < k → n < j → digits k n last ≡ digits j n last
unfolding digits
enough zero j n last e h g = absurd (omega arith)
enough (suc k) zero n last e h g = absurd (omega arith)
enough (suc k) (suc j) n true e h g = refl
enough (suc k) (suc j) n false e h g =
    let large : 10 ≤ n = ltb-false n 10 (sym e) in
    ap (λ (l : List ℕ). l ++ (digit (n % 10) ∷ [])) (enough k j (n / 10) (ltb (n / 10) 10) refl (omega arith) (omega arith))

-- a number of one digit
pub one_digit : (n : ℕ) → n < 10 → decimal n ≡ digit (n % 10) ∷ []
unfolding decimal digits
one_digit n h =
    let same : n ≡ n % 10 = omega arith in
    rw (lt-ltb n 10 h) (ap (λ (k : ℕ). digit k ∷ []) same)

-- a longer number: its last digit comes after the others
pub last_digit : (n : ℕ) → 10 ≤ n → decimal n ≡ decimal (n / 10) ++ (digit (n % 10) ∷ [])
unfolding decimal digits
last_digit n h =
    rw (le-ltb n 10 h)
    (ap (λ (l : List ℕ). l ++ (digit (n % 10) ∷ [])) (enough n (suc (n / 10)) (n / 10) (ltb (n / 10) 10) refl (omega arith) (omega arith)))

-- one digit put, and one more after the others
pub one_put : {before after : List ℕ} {at to b : ℕ} (n : ℕ) → n < 10 → b ≡ digit (n % 10) → Put before after at to (b ∷ [])
    → Put before after at to (decimal n)
one_put n small is p = reading (ap (λ (d : ℕ). d ∷ []) is ∙ sym (one_digit n small)) p

-- two digits put
pub two_put : {before after : List ℕ} {at to : ℕ} (n : ℕ) → 10 ≤ n → n < 100
    → Put before after at to (digit (n / 10 % 10) ∷ digit (n % 10) ∷ []) → Put before after at to (decimal n)
two_put n large small p =
    let whole : decimal n ≡ digit (n / 10 % 10) ∷ digit (n % 10) ∷ [] = last_digit n large ∙ rw (one_digit (n / 10) (omega arith)) refl in
    reading (sym whole) p

-- the last two digits after the others
pub pair_put : {before between after : List ℕ} {at to end : ℕ} (n : ℕ) → 100 ≤ n → Put before between at to (decimal (n / 100))
    → Put between after to end (digit (n / 10 % 10) ∷ digit (n % 10) ∷ []) → Put before after at end (decimal n)
pair_put n large front p =
    let hundreds : n / 10 / 10 ≡ n / 100 = omega arith in
    let tens : decimal (n / 10) ≡ decimal (n / 100) ++ (digit (n / 10 % 10) ∷ []) = last_digit (n / 10) (omega arith) ∙ rw hundreds refl in
    let whole : decimal n ≡ decimal (n / 100) ++ (digit (n / 10 % 10) ∷ digit (n % 10) ∷ []) =
    last_digit n (omega arith) ∙ rw (tens, append_assoc) refl in
    reading (sym whole) (front then p)
