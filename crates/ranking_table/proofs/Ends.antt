-- Going down from an interval, the number of rows that hold it grows no smaller until the first of a row is reached, and grows no larger
-- until the last of one is. So below an interval in two rows there is the first of a row in two, and below a missing one there is the
-- interval after the last of a row, or 1, missing too.
use Prim.Native.Nat.{ℕ, zero, suc, ◌+◌, ◌≤◌, ◌<◌}
use native.Mathlib.Omega.{arith}
use native.Mathlib.Nat.{eq-or-lt_of_le}
use mathlib.Core.Path.{◌≡◌, sym, ap, ◌∙◌}
use mathlib.Core.Logic.{⊎_elim}
use mathlib.Core.List.{List, [], ◌∷◌}
use mathlib.Core.Bool.{true}
use lib.ListN.{length}
use borrow.Author.Tests.{leb-true, le-leb, eqb-true, eq-eqb}
use Rattle.rules.proofs.Basics.Views.{Two, yes_true, no_false, two, clash, Same, equal, different, same}
use Rattle.ranking_table.specs.declared.Row.{Row}
use Rattle.ranking_table.specs.Ranking.{holds, holding, missing, in_two}
use Rattle.ranking_table.specs.Good.{row_at}
use Rattle.ranking_table.proofs.Counting.{from_of, to_of, holds_of}
use Rattle.ranking_table.proofs.Searching.{Candidate}

-- where one row holds an interval only if it holds another, so do more rows that other
module _ (i j : ℕ) (row : Row) (rows : List Row) where
  pub both_more : (holds i row ≡ true → holds j row ≡ true) → holding rows i ≤ holding rows j
      → holding (row ∷ rows) i ≤ holding (row ∷ rows) j
  unfolding holding
  both_more f le = by (two (holds i row)) (two (holds j row))
    where
      by : Two (holds i row) → Two (holds j row) → holding (row ∷ rows) i ≤ holding (row ∷ rows) j
      by (yes_true e) (yes_true g) = rw (e, g) (omega (arith, le))
      by (yes_true e) (no_false g) = clash (holds j row) (f e) g
      by (no_false e) (yes_true g) = rw (e, g) (omega (arith, le))
      by (no_false e) (no_false g) = rw (e, g) le

-- a row whose first, or last, is at i
pub record Has (end : Row → ℕ) (rows : List Row) (i : ℕ) : Type 0 where
  pub number : ℕ
  pub listed : number < length rows
  pub is : end (row_at rows number) ≡ i

pub data Step (end : Row → ℕ) (rows : List Row) (i from to : ℕ) : Type 0 where
  at_end_lem : Has end rows i → Step end rows i from to
  no_less : holding rows from ≤ holding rows to → Step end rows i from to

-- from one interval to another that every row holds, which holds the first, but those whose end is at i
module _ (end : Row → ℕ) (i from to : ℕ) (goes : (row : Row) → (end row ≡ i → ⊥) → holds from row ≡ true → holds to row ≡ true) where
  one_later : (row : Row) {rows : List Row} → Has end rows i → Has end (row ∷ rows) i
  one_later row h = record { number = suc h.number; listed = omega (arith, h.listed); is = h.is }

  pub step : (rows : List Row) → Step end rows i from to
  unfolding holding
  step [] = no_less (omega arith)
  step (row ∷ rows) = by (same (end row) i) (step rows)
    where
      by : Same (end row) i → Step end rows i from to → Step end (row ∷ rows) i from to
      by (equal e _) _ = at_end_lem (record { number = 0; listed = omega arith; is = e })
      by (different _ _) (at_end_lem h) = at_end_lem (one_later row h)
      by (different d _) (no_less le) = no_less (both_more from to row rows (goes row d) le)

abbrev pub first_of : Row → ℕ
first_of row = row.first

abbrev pub last_of : Row → ℕ
last_of row = row.last

-- one interval down: a row holds that too unless it begins above it, and one held before it unless it ends there
down_first : (i : ℕ) (row : Row) → (row.first ≡ suc i → ⊥) → holds (suc i) row ≡ true → holds i row ≡ true
down_first i row d h =
    ⊎_elim (λ e. absurd (d e)) (λ less. holds_of i row (omega arith) (omega (arith, to_of (suc i) row h)))
    (eq-or-lt_of_le (from_of (suc i) row h))

down_last : (i : ℕ) (row : Row) → (row.last ≡ i → ⊥) → holds i row ≡ true → holds (suc i) row ≡ true
down_last i row d h =
    ⊎_elim (λ e. absurd (d (sym e))) (λ less. holds_of (suc i) row (omega (arith, from_of i row h)) less) (eq-or-lt_of_le (to_of i row h))

module _ (rows : List Row) where
  -- the candidates: the first of each row; 1, and what follows the last of each row
  abbrev pub begins : ℕ → ℕ
  begins k = (row_at rows k).first

  abbrev pub follows : ℕ → ℕ
  follows zero = 1
  follows (suc k) = (row_at rows k).last + 1

  -- below an interval in two rows the first of a row is in two
  pub first_below : holding rows 0 ≡ 0 → (i : ℕ) → in_two rows i ≡ true → Candidate (in_two rows) begins (length rows) i
  first_below none zero t = absurd (omega (arith, none, leb-true 2 (holding rows 0) t))
  first_below none (suc i) t = by (step first_of (suc i) (suc i) i (down_first i) rows) (λ e. first_below none i e)
    where
      by : Step first_of rows (suc i) (suc i) i → (in_two rows i ≡ true → Candidate (in_two rows) begins (length rows) i)
          → Candidate (in_two rows) begins (length rows) (suc i)
      by (at_end_lem h) lower =
          record { number = h.number; listed = h.listed; below = omega (arith, h.is); takes = ap (in_two rows) h.is ∙ t }
      by (no_less le) lower =
          let c = lower (le-leb 2 (holding rows i) (omega (arith, le, leb-true 2 (holding rows (suc i)) t))) in
          record { number = c.number; listed = c.listed; below = omega (arith, c.below); takes = c.takes }

  -- below a missing interval the one after the last of a row is missing, or 1
  pub last_below : (i : ℕ) → 1 ≤ i → missing rows i ≡ true → Candidate (missing rows) follows (suc (length rows)) i
  last_below zero low t = absurd (omega arith)
  last_below (suc zero) low t = record { number = 0; listed = omega arith; below = omega arith; takes = t }
  last_below (suc (suc i)) low t =
      by (step last_of (suc i) (suc i) (suc (suc i)) (down_last (suc i)) rows) (λ e. last_below (suc i) (omega arith) e)
    where
      by : Step last_of rows (suc i) (suc i) (suc (suc i))
          → (missing rows (suc i) ≡ true → Candidate (missing rows) follows (suc (length rows)) (suc i))
          → Candidate (missing rows) follows (suc (length rows)) (suc (suc i))
      by (at_end_lem h) lower =
          let at : follows (suc h.number) ≡ suc (suc i) = omega (arith, h.is) in
          record {
            number = suc h.number;
            listed = omega (arith, h.listed);
            below = omega (arith, at);
            takes = ap (missing rows) at ∙ t;
          }
      by (no_less le) lower =
          let c = lower (eq-eqb (holding rows (suc i)) 0 (omega (arith, le, eqb-true (holding rows (suc (suc i))) 0 t))) in
          record { number = c.number; listed = c.listed; below = omega (arith, c.below); takes = c.takes }
