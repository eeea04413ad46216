-- How long a line of the key can be.
use Prim.Native.Nat.{ℕ, zero, suc, ◌+◌, ◌*◌, ◌≤◌, ◌<◌}
use native.Mathlib.Omega.{arith}
use mathlib.Core.Path.{◌≡◌, refl}
use mathlib.Core.List.{List, [], ◌∷◌}
use lib.ListN.{length, length-append}
use Rattle.rules.specs.declared.Running.{Running}
use Rattle.rules.specs.declared.Running.TheVariants.{Nothing, Runs}
use Rattle.rules.specs.Events.{Answered}
use Rattle.rules.specs.Key.{bytes, decimal, verdict_word, running_columns, columns, line, lines}
use Rattle.rules.proofs.Bounds.{RunsNarrow, Narrow, AllNarrow}
use Rattle.text.proofs.DigitCounts.{three_long, five_long}

-- the columns of an answer of narrow numbers
running_length : (r : Running) → RunsNarrow r → length (running_columns r) ≤ 11
unfolding bytes
running_length Nothing h = omega arith
running_length (Runs n t count) h =
    simp length-append
    (omega (arith, three_long n (omega arith), three_long t (omega arith), three_long count (omega arith)))

verdict_length : (number : ℕ) → length (verdict_word number) ≡ 2
unfolding bytes
verdict_length zero = refl
verdict_length (suc number) = refl

-- a line whose links have so many digits
pub line_within : (digits number : ℕ) (a : Answered) → number < 65536 → a.refusal < 256 → RunsNarrow a.state.running
    → length (decimal a.links) ≤ digits → length (line number a) ≤ 26 + digits
unfolding line columns bytes
line_within digits number a h small narrow few =
    simp length-append
    (omega (
      arith,
      five_long number (omega arith),
      verdict_length a.refusal,
      three_long a.refusal (omega arith),
      running_length a.state.running narrow,
      few,
    ))

pub line_length : (number : ℕ) (a : Answered) → number < 65536 → Narrow a → length (line number a) ≤ 31
line_length number a h x =
    line_within 5 number a h x.refusal x.running (five_long a.links (omega (arith, x.links)))

-- as many lines as answers
pub lines_length : (number : ℕ) (l : List Answered) → AllNarrow l → number + length l ≤ 65536 → length (lines number l) ≤ 31 * length l
unfolding lines
lines_length number [] x h = omega arith
lines_length number (a ∷ rest) x h =
    rw length-append
    (omega (arith, line_length number a (omega arith) x.0, lines_length (number + 1) rest x.1 (omega arith)))
