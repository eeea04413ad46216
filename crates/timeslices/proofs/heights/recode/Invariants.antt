-- Every live entry is looked at once, and its code is changed as the closure says.
use Prim.Native.Nat.{ℕ}
use mathlib.Core.Path.{◌≡◌}
use Rattle.timeslices.proofs.Searches.{Recoding}
use Rattle.timeslices.proofs.heights.recode.Given as goal

abbrev pub invariant-loop-i : goal.invariant-loop-i
invariant-loop-i g l = (f : ℕ → ℕ → ℕ) → ((t c r : ℕ) → goal.F-post g l.change c t r → r ≡ f t c)
    → Recoding f l.order l.live l.i-end l.initial.codes l.codes l.i
