-- What an accepted event was not refused for.
use Prim.Native.Nat.{ℕ, suc}
use mathlib.Core.Path.{◌≡◌, refl}
use mathlib.Core.Bool.{Bool, true, false}
use native.Mathlib.Omega.{arith}
use Rattle.rules.specs.Refusals.{◌gives◌else◌}

-- where no number came out, the first test failed and the rest gave none
pub passes : (b : Bool) (k rest : ℕ) → (b gives suc k else rest) ≡ 0 → (b ≡ false) × (rest ≡ 0)
passes true k rest e = absurd (omega arith)
passes false k rest e = (refl, e)
