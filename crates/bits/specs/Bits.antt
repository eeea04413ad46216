-- The bits of a number, and the number of given bits.
use Rattle.std.specs.Prelude.{ℕ, zero, suc, ◌+◌, ◌*◌, ◌/◌, ◌%◌, Bool, cond, eqb}

-- bit i of a number, the lowest is bit 0
unfoldable pub bit : ℕ → ℕ → Bool
bit zero n = eqb (n % 2) 1
bit (suc i) n = bit i (n / 2)

-- the number of so many bits that are given one by one
unfoldable pub number_of : ℕ → (ℕ → Bool) → ℕ
number_of zero f = 0
number_of (suc k) f = cond (f 0) 1 0 + 2 * number_of k (λ i. f (suc i))
