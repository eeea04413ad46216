-- How many digits a number can have: one more for ten times the number.
use Prim.Native.Nat.{ℕ, zero, suc, ◌*◌, ◌/◌, ◌≤◌, ◌<◌}
use native.Mathlib.Omega.{arith}
use lib.ListN.{length, length-append}
use lib.Dec.{ltb}
use borrow.Author.Tests.{ltb-true, ltb-false}
use Rattle.rules.specs.Key.{bytes, decimal, file_line}
use Rattle.rules.proofs.Basics.Views.{Two, yes_true, no_false, two}
use Rattle.text.proofs.Decimals.{one_digit, last_digit}

-- 10, 100, 1,000 and so on
abbrev pub tens : ℕ → ℕ
tens zero = 10
tens (suc k) = tens k * 10

module _ (k bound : ℕ) (shorter : (m : ℕ) → m < bound → length (decimal m) ≤ suc k) where
  longer : (n : ℕ) → n < bound * 10 → Two (ltb n 10) → length (decimal n) ≤ suc (suc k)
  longer n h (yes_true e) = rw (one_digit n (ltb-true n 10 e)) (omega arith)
  longer n h (no_false e) =
      rw (last_digit n (ltb-false n 10 e), length-append) (omega (arith, shorter (n / 10) (omega arith)))

digits_most : (k n : ℕ) → n < tens k → length (decimal n) ≤ suc k
digits_most zero n h = rw (one_digit n h) (omega arith)
digits_most (suc k) n h = longer k (tens k) (digits_most k) n h (two (ltb n 10))

pub two_long : (n : ℕ) → n < 100 → length (decimal n) ≤ 2
two_long = digits_most 1

pub three_long : (n : ℕ) → n < 1000 → length (decimal n) ≤ 3
three_long = digits_most 2

pub four_long : (n : ℕ) → n < 10000 → length (decimal n) ≤ 4
four_long = digits_most 3

pub five_long : (n : ℕ) → n < 100000 → length (decimal n) ≤ 5
five_long = digits_most 4

pub eight_long : (n : ℕ) → n < 100000000 → length (decimal n) ≤ 8
eight_long = digits_most 7

pub ten_long : (n : ℕ) → n < 10000000000 → length (decimal n) ≤ 10
ten_long = digits_most 9

-- a number of eight bytes
pub twenty_long : (n : ℕ) → n < 18446744073709551616 → length (decimal n) ≤ 20
twenty_long n h = digits_most 19 n (omega arith)

-- a refused file's line
pub file_line_length : (number : ℕ) → number < 100 → length (file_line number) ≤ 8
unfolding file_line bytes
file_line_length number h = simp length-append (omega (arith, two_long number h))
