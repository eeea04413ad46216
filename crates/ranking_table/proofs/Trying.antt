-- The candidates that the code tries are enough: for an overlap the first of every row; for a gap 1, and what follows the last of every
-- row.
use Prim.Native.Nat.{ℕ, zero, suc, ◌+◌, ◌≤◌, ◌<◌, min}
use native.Mathlib.Omega.{arith}
use mathlib.Core.Path.{◌≡◌, refl}
use mathlib.Core.List.{List, ◌∷◌, map}
use mathlib.Core.Bool.{Bool, false, ◌&&◌}
use lib.Dec.{leb}
use lib.ListN.{length, get_or}
use borrow.Author.Tests.{leb-true, le-leb}
use Rattle.std.specs.List.{All, filter, fold, reduce}
use Rattle.std.proofs.lemmas.List.Elements.{All-from_get_or}
use Rattle.std.proofs.lemmas.List.{get_or-map, length-map}
use Rattle.rules.proofs.Basics.Views.{and_true_left, and_true_right, and_true_both}
use Rattle.ranking_table.specs.declared.Row.{Row}
use Rattle.ranking_table.specs.Ranking.{any_bad, missing, in_two, overlap, gap}
use Rattle.ranking_table.specs.Good.{no_row, there, better}
use Rattle.ranking_table.proofs.Searching.{Tried, least_is, best_is}
use Rattle.ranking_table.proofs.Ends.{first_of, begins, follows, first_below, last_below}
use Rattle.ranking_table.proofs.BadRows.{all_within, none_at_0}

abbrev pub after : Row → ℕ
after row = row.last + 1

module _ (rows : List Row) where
  abbrev pub near_gap : ℕ → Bool
  near_gap i = leb i 60000 && missing rows i

  listed : (end : Row → ℕ) (k : ℕ) → k < length (map end rows) → k < length rows
  listed end k h = omega (arith, length-map rows end)

  module _ (good : any_bad rows ≡ false) where
    pub ends_inside : All (λ (row : Row). row.last ≤ 60000) rows
    ends_inside = All-from_get_or (λ (row : Row). row.last ≤ 60000) rows no_row (λ k h. (all_within rows good k h).high)

    firsts : Tried (in_two rows) (in_two rows) (map first_of rows) (begins rows)
    firsts =
        record {
          is = λ k h. get_or-map first_of rows k no_row 0 (listed first_of k h);
          some = λ k h. (all_within rows good k (listed first_of k h)).low;
          fits = λ k h e. let w = all_within rows good k (listed first_of k h) in omega (arith, w.ordered, w.high);
          tested = λ k h e. e;
          takes = λ k h le e. e;
        }

    pub overlap_found : reduce min (filter (in_two rows) (map first_of rows)) ≡ there (overlap rows)
    overlap_found =
        least_is (in_two rows) (in_two rows) (map first_of rows) (begins rows) firsts
        (λ i some e. rw (length-map rows first_of) (first_below rows (none_at_0 rows good) i e))

    pub overlap_best : fold (better (in_two rows)) 60001 (map first_of rows) ≡ overlap rows
    overlap_best =
        best_is (in_two rows) (in_two rows) (map first_of rows) (begins rows) firsts
        (λ i some e. rw (length-map rows first_of) (first_below rows (none_at_0 rows good) i e)) (λ i h. refl)

  afters : Tried near_gap (missing rows) (1 ∷ map after rows) (follows rows)
  afters =
      record {
        is = λ k h. is k h;
        some = λ k h. some k;
        fits = λ k h e. leb-true (follows rows k) 60000 (and_true_left (leb (follows rows k) 60000) (missing rows (follows rows k)) e);
        tested = λ k h e. and_true_right (leb (follows rows k) 60000) (missing rows (follows rows k)) e;
        takes = λ k h le e. and_true_both (leb (follows rows k) 60000) (missing rows (follows rows k)) (le-leb (follows rows k) 60000 le) e;
      }
    where
      is : (k : ℕ) → k < length (1 ∷ map after rows) → get_or (1 ∷ map after rows) k 0 ≡ follows rows k
      is zero h = refl
      is (suc k) h = get_or-map after rows k no_row 0 (listed after k (omega arith))

      some : (k : ℕ) → 1 ≤ follows rows k
      some zero = omega arith
      some (suc k) = omega arith

  pub gap_found : reduce min (filter near_gap (1 ∷ map after rows)) ≡ there (gap rows)
  gap_found =
      least_is near_gap (missing rows) (1 ∷ map after rows) (follows rows) afters
      (λ i some e. rw (length-map rows after) (last_below rows i some e))

  pub gap_best : fold (better (missing rows)) 60001 (1 ∷ map after rows) ≡ gap rows
  gap_best =
      best_is near_gap (missing rows) (1 ∷ map after rows) (follows rows) afters
      (λ i some e. rw (length-map rows after) (last_below rows i some e)) (λ i h. rw (le-leb i 60000 h) refl)
