-- THE THEOREMS of the buffers. The answers to every input of bytes have room in 425,984 bytes: there are at most 32,767 intervals, and a
-- line has at most 13 bytes. One byte more than is allowed is enough of any input.
use Prim.Native.Nat.{ℕ, zero, suc, ◌+◌, ◌-◌, ◌*◌, ◌/◌, ◌%◌, ◌≤◌, ◌<◌}
use native.Mathlib.Omega.{arith}
use mathlib.Core.Path.{◌≡◌, refl, ap}
use mathlib.Core.List.{List, [], ◌∷◌}
use mathlib.Core.Bool.{Bool, true, false, ◌||◌}
use lib.Dec.{ltb, eqb}
use lib.ListN.{length, get_or, take, length-append}
use Rattle.rules.specs.EventFile.{Bytes}
use Rattle.rules.specs.Refusals.{◌gives◌else◌}
use Rattle.rules.specs.Key.{bytes, file_line}
use Rattle.text.proofs.DigitCounts.{two_long, three_long, five_long, file_line_length}
use Rattle.text.proofs.Enough.{enough_for_one}
use Rattle.ranking_table.specs.declared.Row.{Row}
use Rattle.ranking_table.specs.Ranking.{Answer, lookup}
use Rattle.ranking_table.specs.Good.{row_at, Judged, too_many, a_bad_row, overlapping, gaping, good, Outcome, bad_table, outside, found}
use Rattle.ranking_table.proofs.Rankings.{lookup_true}
use Rattle.ranking_sheet.specs.Sheet.{rows_from, rows_in, intervals_at, intervals_from, intervals_in, input_refusal}
use Rattle.ranking_sheet.specs.Sheet.{answer_line, answer_lines, ranking_after, ranking}
use Rattle.ranking_sheet.proofs.Inputs.{too_long, not_long}

-- the figures of an answer
record Small (a : Answer) : Type 0 where
  number : a.refusal < 100
  priority : a.priority < 256
  interval : a.interval ≤ 60000

small_fault : {rows : List Row} {a : Answer} → Judged rows a → Small a
small_fault (too_many h) = record { number = omega arith; priority = omega arith; interval = omega arith }
small_fault (a_bad_row h) = record { number = omega arith; priority = omega arith; interval = omega arith }
small_fault (overlapping j formed s) = record { number = omega arith; priority = omega arith; interval = s.interval.1 }
small_fault (gaping j formed s apart) = record { number = omega arith; priority = omega arith; interval = s.interval.1 }
small_fault (good g) = record { number = omega arith; priority = omega arith; interval = omega arith }

small : {rows : List Row} {i : ℕ} {a : Answer} → ((k : ℕ) → (row_at rows k).priority < 256) → Outcome rows i a → Small a
small f (bad_table j refused) = small_fault j
small f (outside g h) = record { number = omega arith; priority = omega arith; interval = omega arith }
small f (found g inside one) = record { number = omega arith; priority = f one.row; interval = omega arith }

line_length : (a : Answer) → Small a → length (answer_line a) ≤ 13
unfolding answer_line bytes
line_length a s =
    simp length-append
    (omega (
      arith,
      two_long a.refusal s.number,
      three_long a.priority (omega (arith, s.priority)),
      five_long a.interval (omega (arith, s.interval)),
    ))

lines_length : (rows : List Row) → ((k : ℕ) → (row_at rows k).priority < 256) → (is : List ℕ)
    → length (answer_lines rows is) ≤ 13 * length is
unfolding answer_lines
lines_length rows f [] = omega arith
lines_length rows f (i ∷ is) =
    rw length-append (omega (arith, line_length (lookup rows i) (small f (lookup_true rows i)), lines_length rows f is))

-- the rows of bytes
module _ (b : List ℕ) (narrow : Bytes b) where
  priorities : (n at k : ℕ) → (row_at (rows_from b at n) k).priority < 256
  unfolding rows_from
  priorities zero at k = omega arith
  priorities (suc n) at zero = narrow (at + 4)
  priorities (suc n) at (suc k) = priorities n (at + 5) k

  intervals_length : (n at : ℕ) → length (intervals_from b at n) ≡ n
  unfolding intervals_from
  intervals_length zero at = refl
  intervals_length (suc n) at = ap suc (intervals_length n (at + 2))

  -- by what the input is refused for
  fits_after : (n : ℕ) → input_refusal b ≡ n → n < 100 → length (ranking_after n b) ≤ 425984
  fits_after zero h small-number =
      omega (
        arith,
        lines_length (rows_in b) (λ k. priorities (get_or b 0 0) 1 k) (intervals_in b),
        intervals_length ((length b - intervals_at b) / 2) (intervals_at b),
        not_long b h,
      )
  fits_after (suc n) h small-number = omega (arith, file_line_length (suc n) small-number)

refusal_most : (b : List ℕ) → input_refusal b ≤ 14
unfolding input_refusal
refusal_most b = by (ltb 65536 (length b) || ltb (length b) (intervals_at b) || eqb ((length b - intervals_at b) % 2) 1)
  where
    by : (t : Bool) → (t gives 14 else 0) ≤ 14
    by true = omega arith
    by false = omega arith

pub ranking_fits : (b : List ℕ) → Bytes b → length (ranking b) ≤ 425984
unfolding ranking
ranking_fits b narrow = fits_after b narrow (input_refusal b) refl (omega (arith, refusal_most b))

long_ranking : (b : List ℕ) → 65536 < length b → ranking b ≡ file_line 14
unfolding ranking
long_ranking b h = rw (too_long b h) refl

-- what follows the first 65,537 bytes changes nothing
pub enough_for_ranking : (n : ℕ) → 65536 < n → (b : List ℕ) → ranking (take n b) ≡ ranking b
enough_for_ranking = enough_for_one ranking 65536 (file_line 14) long_ranking
