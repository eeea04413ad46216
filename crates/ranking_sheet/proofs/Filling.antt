-- The rows read so far and those still to be read are the rows of the input.
use Prim.Native.Nat.{ℕ, suc, ◌+◌, ◌-◌, ◌*◌, ◌≤◌, ◌<◌}
use native.Mathlib.Omega.{arith}
use native.Mathlib.Numerals.{add-one}
use mathlib.Core.Path.{◌≡◌, sym, ap, ◌∙◌}
use mathlib.Core.List.{List, [], ◌∷◌, ◌++◌, append_assoc, append-nil}
use lib.ListN.{length, take, set, length-set}
use lib.Seq.{take-suc-set}
use Rattle.ranking_table.specs.declared.Row.{Row}
use Rattle.ranking_sheet.specs.Sheet.{row_from, rows_from}

pub record Filled (b : List ℕ) (count : ℕ) (rows : List Row) (k : ℕ) : Type 0 where
  pub size : length rows ≡ 255
  pub few : count ≤ 255
  pub inside : k ≤ count
  pub all : take k rows ++ rows_from b (1 + 5 * k) (count - k) ≡ rows_from b 1 count

pub fill_none : (b : List ℕ) (count : ℕ) (rows : List Row) → length rows ≡ 255 → count ≤ 255 → Filled b count rows 0
fill_none b count rows size few =
    let none : count - 0 ≡ count = omega arith in
    record { size = size; few = few; inside = omega arith; all = ap (rows_from b 1) none }

module _ {b : List ℕ} {count : ℕ} {rows : List Row} {k : ℕ} (f : Filled b count rows k) where
  pub fill_one : k < count → (row : Row) → row ≡ row_from b (1 + 5 * k) → Filled b count (set rows k row) (k + 1)
  unfolding rows_from
  fill_one short row is =
      let left : count - k ≡ suc (count - (k + 1)) = omega arith in
      let place : 1 + 5 * (k + 1) ≡ 1 + 5 * k + 5 = omega arith in
      let first : take (k + 1) (set rows k row) ≡ take k rows ++ (row ∷ []) =
      rw add-one (take-suc-set rows k row (omega (arith, f.size, f.few))) in
      let rest = rows_from b (1 + 5 * (k + 1)) (count - (k + 1)) in
      record {
        size = length-set rows k row ∙ f.size;
        few = f.few;
        inside = omega arith;
        all =
            ap (λ (l : List Row). l ++ rest) first
            ∙ append_assoc (take k rows) (row ∷ []) rest
            ∙ ap (λ (r : Row). take k rows ++ r ∷ rest) is
            ∙ ap (λ (at : ℕ). take k rows ++ row_from b (1 + 5 * k) ∷ rows_from b at (count - (k + 1))) place
            ∙ ap (λ (n : ℕ). take k rows ++ rows_from b (1 + 5 * k) n) (sym left)
            ∙ f.all;
      }

  pub fill_all : count ≤ k → take count rows ≡ rows_from b 1 count
  unfolding rows_from
  fill_all out =
      let none : count - k ≡ 0 = omega arith in
      let end : k ≡ count = omega (arith, f.inside) in
      ap (λ (n : ℕ). take n rows) (sym end)
      ∙ sym (append-nil (take k rows))
      ∙ ap (λ (n : ℕ). take k rows ++ rows_from b (1 + 5 * k) n) (sym none)
      ∙ f.all
