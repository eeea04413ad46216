-- No row is bad exactly where each is within the range with its first not above its last. Then none holds 0.
use Prim.Native.Nat.{ℕ, zero, suc, ◌<◌}
use native.Mathlib.Omega.{arith}
use mathlib.Core.Path.{◌≡◌, refl}
use mathlib.Core.List.{List, [], ◌∷◌}
use mathlib.Core.Bool.{true, false, not, ◌||◌}
use lib.Dec.{leb, ltb}
use lib.ListN.{length}
use borrow.Author.Tests.{leb-true, le-leb, le-ltb, ltb-false, not-false}
use Rattle.rules.proofs.Basics.Views.{clash, and_true_left, and_true_right, and_true_both}
use Rattle.rules.proofs.Basics.Views.{or_false_both, Either, first, second, or_true_cases}
use Rattle.ranking_table.specs.declared.Row.{Row}
use Rattle.ranking_table.specs.Ranking.{in_range, bad_row, any_bad, holding}
use Rattle.ranking_table.specs.Good.{row_at, Interval, Within, Bad}
use Rattle.ranking_table.proofs.Counting.{of_missing}

pub interval_of : (i : ℕ) → in_range i ≡ true → Interval i
interval_of i h = (leb-true 1 i (and_true_left (leb 1 i) (leb i 60000) h), leb-true i 60000 (and_true_right (leb 1 i) (leb i 60000) h))

pub of_interval : (i : ℕ) → Interval i → in_range i ≡ true
of_interval i h = and_true_both (leb 1 i) (leb i 60000) (le-leb 1 i h.0) (le-leb i 60000 h.1)

within_of : (row : Row) → bad_row row ≡ false → Within row
within_of row e =
    let parts = or_false_both (not (in_range row.first) || not (in_range row.last)) (ltb row.last row.first) e in
    let ends = or_false_both (not (in_range row.first)) (not (in_range row.last)) parts.0 in
    record {
      low = (interval_of row.first (not-false (in_range row.first) ends.0)).0;
      ordered = ltb-false row.last row.first parts.1;
      high = (interval_of row.last (not-false (in_range row.last) ends.1)).1;
    }

of_within : (row : Row) → Within row → bad_row row ≡ false
of_within row w =
    rw (
      of_interval row.first (w.low, omega (arith, w.ordered, w.high)),
      of_interval row.last (omega (arith, w.low, w.ordered), w.high),
    ) (le-ltb row.last row.first w.ordered)

pub all_within : (rows : List Row) → any_bad rows ≡ false → (k : ℕ) → k < length rows → Within (row_at rows k)
unfolding any_bad
all_within [] e k h = absurd (omega arith)
all_within (row ∷ rows) e zero h = within_of row (or_false_both (bad_row row) (any_bad rows) e).0
all_within (row ∷ rows) e (suc k) h = all_within rows (or_false_both (bad_row row) (any_bad rows) e).1 k (omega arith)

pub none_bad : (rows : List Row) → ((k : ℕ) → k < length rows → Within (row_at rows k)) → any_bad rows ≡ false
unfolding any_bad
none_bad [] f = refl
none_bad (row ∷ rows) f = rw (of_within row (f 0 (omega arith)), none_bad rows (λ k h. f (suc k) (omega arith))) refl

pub none_at_0 : (rows : List Row) → any_bad rows ≡ false → holding rows 0 ≡ 0
none_at_0 rows e = of_missing rows 0 (λ k h. let w = all_within rows e k h.listed in absurd (omega (arith, w.low, h.from)))

pub bad_of : (rows : List Row) → any_bad rows ≡ true → Bad rows
unfolding any_bad
bad_of [] e = clash false e refl
bad_of (row ∷ rows) e = by (or_true_cases (bad_row row) (any_bad rows) e) (λ f. bad_of rows f)
  where
    by : Either (bad_row row) (any_bad rows) → (any_bad rows ≡ true → Bad rows) → Bad (row ∷ rows)
    by (first h) later = record { number = 0; listed = omega arith; not_within = λ w. clash (bad_row row) h (of_within row w) }
    by (second _ h) later =
        let b = later h in
        record { number = suc b.number; listed = omega (arith, b.listed); not_within = b.not_within }
