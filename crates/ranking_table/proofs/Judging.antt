-- What is wrong with a table, test by test, and what a table that was judged answers.
use Prim.Native.Nat.{ℕ, ◌≤◌, ◌<◌}
use mathlib.Core.Path.{◌≡◌, refl, sym, ap, ◌∙◌}
use mathlib.Core.List.{List}
use mathlib.Core.Bool.{true, false}
use lib.Dec.{leb, ltb}
use lib.ListN.{length}
use Rattle.std.proofs.lemmas.Option.{none-some}
use Rattle.std.specs.Prelude.{Option, Some, None, unwrap_or}
use borrow.Author.Tests.{leb-true, leb-false, lt-ltb, le-ltb, le-leb, lt-leb}
use Rattle.rules.proofs.Basics.Views.{Two, yes_true, no_false, two, or_true_right}
use Rattle.ranking_table.specs.declared.Row.{Row}
use Rattle.ranking_table.specs.Good.{there}
use Rattle.ranking_table.specs.Ranking.{any_bad, overlap, gap, refused, accepted, fault}

-- a search that found an interval, and one that found none
is_here : (s : ℕ) → leb s 60000 ≡ true → there s ≡ Some s
is_here s h = rw h refl

is_none : (s : ℕ) → leb s 60000 ≡ false → there s ≡ None
is_none s h = rw h refl

found_at : (s i : ℕ) → Some i ≡ there s → (s ≤ 60000) × (i ≡ s)
found_at s i e = by (two (leb s 60000))
  where
    by : Two (leb s 60000) → (s ≤ 60000) × (i ≡ s)
    by (yes_true h) = (leb-true s 60000 h, ap (λ (o : Option ℕ). unwrap_or o 0) (e ∙ is_here s h))
    by (no_false h) = absurd (none-some i (sym (e ∙ is_none s h)))

found_none : (s : ℕ) → None ≡ there s → 60000 < s
found_none s e = by (two (leb s 60000))
  where
    by : Two (leb s 60000) → 60000 < s
    by (yes_true h) = absurd (none-some s (e ∙ is_here s h))
    by (no_false h) = leb-false s 60000 h

module _ (rows : List Row) where
  pub many_fault : 64 < length rows → fault rows ≡ refused 23 0
  unfolding fault
  many_fault h = rw (or_true_right (any_bad rows) (ltb 64 (length rows)) (lt-ltb 64 (length rows) h)) refl

  pub row_fault : any_bad rows ≡ true → fault rows ≡ refused 23 0
  unfolding fault
  row_fault e = rw e refl

  module _ (few : length rows ≤ 64) (good : any_bad rows ≡ false) where
    pub overlap_fault : overlap rows ≤ 60000 → fault rows ≡ refused 24 (overlap rows)
    unfolding fault
    overlap_fault h = rw (good, le-ltb 64 (length rows) few, le-leb (overlap rows) 60000 h) refl

    module _ (apart : 60000 < overlap rows) where
      pub gap_fault : gap rows ≤ 60000 → fault rows ≡ refused 25 (gap rows)
      unfolding fault
      gap_fault h = rw (good, le-ltb 64 (length rows) few, lt-leb (overlap rows) 60000 apart, le-leb (gap rows) 60000 h) refl

      pub no_fault : 60000 < gap rows → fault rows ≡ accepted 0
      unfolding fault
      no_fault h = rw (good, le-ltb 64 (length rows) few, lt-leb (overlap rows) 60000 apart, lt-leb (gap rows) 60000 h) refl

    -- by what the two searches find
    pub overlap_told : (i : ℕ) → Some i ≡ there (overlap rows) → refused 24 i ≡ fault rows
    overlap_told i e =
        let h = found_at (overlap rows) i e in
        ap (refused 24) h.1 ∙ sym (overlap_fault h.0)

    pub gap_told : (i : ℕ) → None ≡ there (overlap rows) → Some i ≡ there (gap rows) → refused 25 i ≡ fault rows
    gap_told i e f =
        let h = found_at (gap rows) i f in
        ap (refused 25) h.1 ∙ sym (gap_fault (found_none (overlap rows) e) h.0)

    pub none_told : None ≡ there (overlap rows) → None ≡ there (gap rows) → accepted 0 ≡ fault rows
    none_told e f = sym (no_fault (found_none (overlap rows) e) (found_none (gap rows) f))
