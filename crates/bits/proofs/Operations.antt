-- What the machine's operations on words of k bits give, said bit by bit.
use Prim.Native.Nat.{ℕ, ◌-◌, ◌*◌, ◌%◌, ◌^◌, ◌<◌}
use native.Mathlib.Nat.{mod-eq_of_lt, one-mul}
use native.Mathlib.Omega.{arith}
use mathlib.Core.Path.{◌≡◌, sym, ap, ◌∙◌}
use mathlib.Core.Bool.{Bool, not, ◌&&◌, ◌||◌}
use lib.Dec.{eqb}
use lib.Bits.{bit_and, bit_or, and_le_l, or_lt}
use lib.Pow.{pow-lt}
use Rattle.bits.specs.Bits.{bit, number_of}
use Rattle.bits.proofs.BitLaws.{same_bits, its_bits, bit_and_lem, bit_or_lem, bit_not, bit_one}

module _ (k : ℕ) where
  -- its bits decide a word
  pub by_bits : (n : ℕ) (f : ℕ → Bool) → n < 2 ^ k → ((i : ℕ) → i < k → bit i n ≡ f i) → n ≡ number_of k f
  by_bits n f small h = sym (its_bits k n small) ∙ same_bits k (λ i. bit i n) f h

  pub common : (a b : ℕ) → a < 2 ^ k → bit_and a b ≡ number_of k (λ i. bit i a && bit i b)
  common a b small = by_bits (bit_and a b) (λ i. bit i a && bit i b) (omega (arith, and_le_l a b)) (λ i h. bit_and_lem i a b)

  pub without : (a c : ℕ) → a < 2 ^ k → c < 2 ^ k → bit_and a ((2 ^ k - 1) - c) ≡ number_of k (λ i. bit i a && not (bit i c))
  without a c small narrow =
      by_bits (bit_and a ((2 ^ k - 1) - c)) (λ i. bit i a && not (bit i c)) (omega (arith, and_le_l a ((2 ^ k - 1) - c)))
      (λ i h. bit_and_lem i a ((2 ^ k - 1) - c) ∙ ap (λ (b : Bool). bit i a && b) (bit_not k i c narrow h))

  -- one bit alone
  shifted : (i : ℕ) → i < k → (1 * 2 ^ i) % 2 ^ k ≡ 2 ^ i
  shifted i h = ap (λ (n : ℕ). n % 2 ^ k) (one-mul (2 ^ i)) ∙ mod-eq_of_lt (pow-lt h)

  pub with_one : (a i : ℕ) → a < 2 ^ k → i < k → bit_or a ((1 * 2 ^ i) % 2 ^ k) ≡ number_of k (λ j. bit j a || eqb j i)
  with_one a i small h =
      ap (bit_or a) (shifted i h)
      ∙ by_bits (bit_or a (2 ^ i)) (λ j. bit j a || eqb j i) (or_lt k a (2 ^ i) small (pow-lt h))
      (λ j _. bit_or_lem j a (2 ^ i) ∙ ap (λ (b : Bool). bit j a || b) (bit_one j i))

  pub without_one : (a i : ℕ) → a < 2 ^ k → i < k
      → bit_and a ((2 ^ k - 1) - (1 * 2 ^ i) % 2 ^ k) ≡ number_of k (λ j. bit j a && not (eqb j i))
  without_one a i small h =
      ap (λ (n : ℕ). bit_and a ((2 ^ k - 1) - n)) (shifted i h)
      ∙ without a (2 ^ i) small (pow-lt h)
      ∙ same_bits k (λ j. bit j a && not (bit j (2 ^ i))) (λ j. bit j a && not (eqb j i))
      (λ j _. ap (λ (b : Bool). bit j a && not b) (bit_one j i))
