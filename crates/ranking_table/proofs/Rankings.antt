-- THE THEOREMS of request [10]. `fault_true` and `lookup_true`: what every table is judged to be, and what every lookup in it answers, is
-- what document 02 asks, by the rows that hold an interval. `good_exactly`: the good tables are exactly those in which every interval is
-- in exactly one row. `finds`: there a lookup finds its row. `overlap_at_a_first` and `gap_after_a_last`: where the interval of an overlap
-- or a gap can be, which is why the cost grows with the rows alone.
use Prim.Native.Nat.{ℕ, zero, suc, ◌+◌, ◌≤◌, ◌<◌}
use native.Mathlib.Omega.{arith}
use mathlib.Core.Path.{◌≡◌, refl, sym}
use mathlib.Core.Logic.{◌⊎◌, inl, inr}
use mathlib.Core.List.{List}
use mathlib.Core.Bool.{Bool, true, false}
use lib.Dec.{leb, ltb}
use lib.ListN.{length}
use borrow.Author.Tests.{leb-true, leb-false, le-leb, eq-eqb, eqb-true, ltb-true, ltb-false}
use Rattle.rules.proofs.Basics.Views.{Two, yes_true, no_false, two, clash}
use Rattle.ranking_table.specs.declared.Row.{Row}
use Rattle.ranking_table.specs.Ranking.{in_range, holding, missing, in_two, overlap, gap, any_bad}
use Rattle.ranking_table.specs.Ranking.{Answer, accepted, fault, answer_by, lookup}
use Rattle.ranking_table.specs.Good.{row_at, Interval, InOne, InTwo, Missing, Formed, Good, SmallestOf}
use Rattle.ranking_table.specs.Good.{Judged, too_many, a_bad_row, overlapping, gaping, good}
use Rattle.ranking_table.specs.Good.{Outcome, bad_table, outside, found}
use Rattle.ranking_table.proofs.Counting.{Count, in_none, in_one, in_more, counted, missing_of, of_missing, two_of, of_two}
use Rattle.ranking_table.proofs.Counting.{not_two, priority_of}
use Rattle.ranking_table.proofs.Searching.{Smallest, smallest_is, Candidate}
use Rattle.ranking_table.proofs.Ends.{Has, first_of, begins, follows, first_below, last_below}
use Rattle.ranking_table.proofs.BadRows.{interval_of, of_interval, all_within, none_bad, none_at_0, bad_of}
use Rattle.ranking_table.proofs.Judging.{many_fault, row_fault, overlap_fault, gap_fault, no_fault}

-- an interval, and the smallest that a test takes
module _ (test : ℕ → Bool) (P : ℕ → Type 0) (of : (i : ℕ) → test i ≡ true → P i) (to : (i : ℕ) → P i → test i ≡ true) where
  smallest_of : {r : ℕ} → Smallest test r → r ≤ 60000 → SmallestOf P r
  smallest_of {r} s inside =
      record { interval = (s.low, inside); holds = of r (s.takes inside); smallest = λ j some p. by j some p (two (ltb j r)) }
    where
      by : (j : ℕ) → 1 ≤ j → P j → Two (ltb j r) → r ≤ j
      by j some p (yes_true less) = clash (test j) (to j p) (s.first j some (ltb-true j r less))
      by j some p (no_false not-less) = ltb-false j r not-less

  none_of : {r : ℕ} → Smallest test r → 60000 < r → (i : ℕ) → Interval i → P i → ⊥
  none_of {r} s past i inside p = clash (test i) (to i p) (s.first i inside.0 (omega (arith, inside.1)))

module _ (rows : List Row) where
  -- the two tests
  two_test : (i : ℕ) → in_two rows i ≡ true → InTwo rows i
  two_test i h = two_of rows i (leb-true 2 (holding rows i) h)

  test_two : (i : ℕ) → InTwo rows i → in_two rows i ≡ true
  test_two i h = le-leb 2 (holding rows i) (of_two rows i h)

  missing_test : (i : ℕ) → missing rows i ≡ true → Missing rows i
  missing_test i h = missing_of rows i (eqb-true (holding rows i) 0 h)

  test_missing : (i : ℕ) → Missing rows i → missing rows i ≡ true
  test_missing i h = eq-eqb (holding rows i) 0 (of_missing rows i h)

  pub smallest_overlap : overlap rows ≤ 60000 → SmallestOf (InTwo rows) (overlap rows)
  smallest_overlap = smallest_of (in_two rows) (InTwo rows) two_test test_two (smallest_is (in_two rows))

  pub smallest_gap : gap rows ≤ 60000 → SmallestOf (Missing rows) (gap rows)
  smallest_gap = smallest_of (missing rows) (Missing rows) missing_test test_missing (smallest_is (missing rows))

  no_overlap : 60000 < overlap rows → (i : ℕ) → Interval i → InTwo rows i → ⊥
  no_overlap = none_of (in_two rows) (InTwo rows) two_test test_two (smallest_is (in_two rows))

  no_gap : 60000 < gap rows → (i : ℕ) → Interval i → Missing rows i → ⊥
  no_gap = none_of (missing rows) (Missing rows) missing_test test_missing (smallest_is (missing rows))

  -- an interval that is not missing and not in two rows is in one
  in_one_row : (i : ℕ) → (Missing rows i → ⊥) → (InTwo rows i → ⊥) → InOne rows i
  in_one_row i some few = by (counted rows i)
    where
      by : {n : ℕ} → Count rows i n → InOne rows i
      by (in_none m) = absurd (some m)
      by (in_one o) = o
      by (in_more n t) = absurd (few t)

  -- the two tests that come first
  formed_of : length rows ≤ 64 → any_bad rows ≡ false → Formed rows
  formed_of few fine = record { few = few; within = all_within rows fine }

  -- no overlap and no gap
  good_of : Formed rows → 60000 < overlap rows → 60000 < gap rows → Good rows
  good_of formed apart covered =
      record { formed = formed; once = λ i inside. in_one_row i (no_gap covered i inside) (no_overlap apart i inside) }

  -- what is wrong with a table
  pub fault_true : Judged rows (fault rows)
  fault_true = by_many (two (ltb 64 (length rows)))
    where
      by_gap : (few : length rows ≤ 64) (fine : any_bad rows ≡ false) → 60000 < overlap rows → Two (leb (gap rows) 60000)
          → Judged rows (fault rows)
      by_gap few fine apart (yes_true h) =
          let inside = leb-true (gap rows) 60000 h in
          rw (gap_fault rows few fine apart inside) (gaping (gap rows) (formed_of few fine) (smallest_gap inside) (no_overlap apart))
      by_gap few fine apart (no_false h) =
          let covered = leb-false (gap rows) 60000 h in
          rw (no_fault rows few fine apart covered) (good (good_of (formed_of few fine) apart covered))

      by_overlap : (few : length rows ≤ 64) (fine : any_bad rows ≡ false) → Two (leb (overlap rows) 60000) → Judged rows (fault rows)
      by_overlap few fine (yes_true h) =
          let inside = leb-true (overlap rows) 60000 h in
          rw (overlap_fault rows few fine inside) (overlapping (overlap rows) (formed_of few fine) (smallest_overlap inside))
      by_overlap few fine (no_false h) = by_gap few fine (leb-false (overlap rows) 60000 h) (two (leb (gap rows) 60000))

      by_bad : (few : length rows ≤ 64) → Two (any_bad rows) → Judged rows (fault rows)
      by_bad few (yes_true h) = rw (row_fault rows h) (a_bad_row (bad_of rows h))
      by_bad few (no_false h) = by_overlap few h (two (leb (overlap rows) 60000))

      by_many : Two (ltb 64 (length rows)) → Judged rows (fault rows)
      by_many (yes_true h) = let more = ltb-true 64 (length rows) h in rw (many_fault rows more) (too_many more)
      by_many (no_false h) = by_bad (ltb-false 64 (length rows) h) (two (any_bad rows))

  -- and what a lookup says then
  answer_true : (i : ℕ) {a : Answer} → Judged rows a → Outcome rows i (answer_by a rows i)
  answer_true i (too_many h) = bad_table (too_many h) (λ e. omega arith)
  answer_true i (a_bad_row h) = bad_table (a_bad_row h) (λ e. omega arith)
  answer_true i (overlapping j formed s) = bad_table (overlapping j formed s) (λ e. omega arith)
  answer_true i (gaping j formed s apart) = bad_table (gaping j formed s apart) (λ e. omega arith)
  answer_true i (good g) = by (two (in_range i))
    where
      by : Two (in_range i) → Outcome rows i (answer_by (accepted 0) rows i)
      by (yes_true h) =
          let inside = interval_of i h in
          let one = g.once i inside in
          rw (h, priority_of rows i one.row one.holds one.only) (found g inside one)
      by (no_false h) = rw h (outside g (λ inside. clash (in_range i) (of_interval i inside) h))

  pub lookup_true : (i : ℕ) → Outcome rows i (lookup rows i)
  unfolding lookup
  lookup_true i = answer_true i fault_true

  -- "The table is good only if every interval is in exactly one row."
  pub good_exactly : ((fault rows).refusal ≡ 0 → Good rows) × (Good rows → fault rows ≡ accepted 0)
  good_exactly = (only_if fault_true, if fault_true)
    where
      only_if : {a : Answer} → Judged rows a → a.refusal ≡ 0 → Good rows
      only_if (too_many h) e = absurd (omega arith)
      only_if (a_bad_row h) e = absurd (omega arith)
      only_if (overlapping j formed s) e = absurd (omega arith)
      only_if (gaping j formed s apart) e = absurd (omega arith)
      only_if (good g) e = g

      if : {a : Answer} → Judged rows a → Good rows → a ≡ accepted 0
      if (too_many h) g = absurd (omega (arith, g.formed.few))
      if (a_bad_row b) g = absurd (b.not_within (g.formed.within b.number b.listed))
      if (overlapping j formed s) g = absurd (not_two rows j (g.once j s.interval) s.holds)
      if (gaping j formed s apart) g = let one = g.once j s.interval in absurd (s.holds one.row one.holds)
      if (good _) g = refl

  -- a good table's lookup finds its row
  pub finds : (g : Good rows) (i : ℕ) (inside : Interval i) → lookup rows i ≡ accepted (row_at rows (g.once i inside).row).priority
  unfolding lookup
  finds g i inside =
      let one = g.once i inside in
      rw (good_exactly.1 g, of_interval i inside, priority_of rows i one.row one.holds one.only) refl

  -- the smallest interval in two rows is the first of a row
  pub overlap_at_a_first : (j : ℕ) → Formed rows → SmallestOf (InTwo rows) j → Has first_of rows j
  overlap_at_a_first j formed s =
      let c = first_below rows (none_at_0 rows (none_bad rows formed.within)) j (test_two j s.holds) in
      let some : 1 ≤ begins rows c.number = (formed.within c.number c.listed).low in
      let not_lower = s.smallest (begins rows c.number) some (two_test (begins rows c.number) c.takes) in
      record { number = c.number; listed = c.listed; is = omega (arith, c.below, not_lower) }

  some_follow : (k : ℕ) → 1 ≤ follows rows k
  some_follow zero = omega arith
  some_follow (suc k) = omega arith

  -- the smallest interval missing is 1, or follows the last of a row
  pub gap_after_a_last : (j : ℕ) → SmallestOf (Missing rows) j → (j ≡ 1) ⊎ Has (λ row. row.last + 1) rows j
  gap_after_a_last j s = by (last_below rows j s.interval.0 (test_missing j s.holds))
    where
      from : (k : ℕ) → k < suc (length rows) → follows rows k ≡ j → (j ≡ 1) ⊎ Has (λ row. row.last + 1) rows j
      from zero h e = inl (sym e)
      from (suc k) h e = inr (record { number = k; listed = omega arith; is = e })

      by : Candidate (missing rows) (follows rows) (suc (length rows)) j → (j ≡ 1) ⊎ Has (λ row. row.last + 1) rows j
      by c =
          let k = c.number in
          let not_lower = s.smallest (follows rows k) (some_follow k) (missing_test (follows rows k) c.takes) in
          from k c.listed (omega (arith, c.below, not_lower))
