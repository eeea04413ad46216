-- The definitions, which go through the rows one by one, as the library's functions on lists, which the code calls.
use Prim.Native.Nat.{ℕ}
use mathlib.Core.Path.{◌≡◌, refl}
use mathlib.Core.List.{List, [], ◌∷◌}
use lib.ListN.{length}
use Rattle.std.specs.List.{filter, find, list_any}
use Rattle.std.specs.Option.{option_map_or}
use Rattle.rules.proofs.Basics.Views.{Two, yes_true, no_false, two}
use Rattle.ranking_table.specs.declared.Row.{Row}
use Rattle.ranking_table.specs.Ranking.{holds, holding, bad_row, any_bad, priority_in}

pub any_bad_is : (rows : List Row) → list_any bad_row rows ≡ any_bad rows
unfolding any_bad
any_bad_is [] = refl
any_bad_is (row ∷ rows) = rw (any_bad_is rows) refl

pub holding_is : (rows : List Row) (i : ℕ) → length (filter (holds i) rows) ≡ holding rows i
unfolding holding
holding_is [] i = refl
holding_is (row ∷ rows) i = by (two (holds i row)) (holding_is rows i)
  where
    by : Two (holds i row) → length (filter (holds i) rows) ≡ holding rows i
        → length (filter (holds i) (row ∷ rows)) ≡ holding (row ∷ rows) i
    by (yes_true e) h = rw (e, h) refl
    by (no_false e) h = rw (e, h) refl

abbrev pub priority_found : List Row → ℕ → ℕ
priority_found rows i = option_map_or (λ (row : Row). row.priority) (find (holds i) rows) 0

pub priority_in_is : (rows : List Row) (i : ℕ) → priority_found rows i ≡ priority_in rows i
unfolding priority_in
priority_in_is [] i = refl
priority_in_is (row ∷ rows) i = by (two (holds i row)) (priority_in_is rows i)
  where
    by : Two (holds i row) → priority_found rows i ≡ priority_in rows i → priority_found (row ∷ rows) i ≡ priority_in (row ∷ rows) i
    by (yes_true e) h = rw e refl
    by (no_false e) h = rw (e, h) refl
