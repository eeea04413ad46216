-- The columns of the key by their parts.
use Prim.Native.Nat.{ℕ, zero, suc}
use mathlib.Core.Path.{◌≡◌, refl}
use mathlib.Core.List.{◌++◌, append_assoc}
use Rattle.rules.specs.declared.Running.{Running}
use Rattle.rules.specs.Key.{bytes, decimal, verdict_word, running_columns, columns}

-- a refused event's verdict
pub refused_verdict : (number : ℕ) → (number ≡ 0 → ⊥) → bytes "no" ≡ verdict_word number
refused_verdict zero h = absurd (h refl)
refused_verdict (suc number) h = refl

-- three columns, each with its space, and those of what runs
pub columns_in_parts : (number refusal : ℕ) (running : Running)
    → (decimal number ++ bytes " ") ++ verdict_word refusal ++ bytes " " ++ (decimal refusal ++ bytes " ") ++ running_columns running
    ≡ columns number refusal running
unfolding columns
columns_in_parts number refusal running = simp append_assoc
