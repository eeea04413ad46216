-- For what a file is refused: each number of document 01 under its condition, for every file. A test that holds settles the refusal that it
-- stands under.
use Prim.Native.Nat.{ℕ, suc, ◌+◌, ◌<◌, ◌≤◌}
use mathlib.Core.Path.{◌≡◌, refl, ap}
use mathlib.Core.List.{List}
use mathlib.Core.Bool.{Bool, true, false, ◌||◌}
use mathlib.Core.Option.{none}
use lib.ListN.{length, get_or}
use borrow.Author.Tests.{lt-ltb, le-ltb, eq-eqb, ne_eqb}
use Rattle.rules.specs.EventFile.{length_field, head_refusal, records_in, file_refusal_after, file_refusal}

or_true : (b : Bool) → (b || true) ≡ true
or_true true = refl
or_true false = refl

module _ (file : List ℕ) where
  by_head : (n : ℕ) → head_refusal file ≡ suc n → file_refusal file ≡ suc n
  unfolding file_refusal
  by_head n h = ap (λ (k : ℕ). file_refusal_after k file) h

  -- "14 (fewer than 4 bytes, more than 65,536 bytes, length field 0 or not the bytes that follow it)"
  pub refuses_short : length file < 4 → file_refusal file ≡ 14
  refuses_short h = by_head 13 (simp (lt-ltb _ _ h))

  pub refuses_long : 65536 < length file → file_refusal file ≡ 14
  refuses_long h = by_head 13 (simp (lt-ltb _ _ h, or_true))

  pub refuses_field_0 : length_field file ≡ 0 → file_refusal file ≡ 14
  refuses_field_0 h = by_head 13 (simp (eq-eqb _ _ h, or_true))

  pub refuses_field : (length_field file + 4 ≡ length file → ⊥) → file_refusal file ≡ 14
  refuses_field h = by_head 13 (simp (ne_eqb _ _ h, or_true))

  -- what 14 is not given for
  pub record Counted : Type 0 where
    pub long : 4 ≤ length file
    pub small : length file ≤ 65536
    pub filled : length_field file ≡ 0 → ⊥
    pub counted : length_field file + 4 ≡ length file

  -- "15 (version not 1)"
  pub refuses_version : Counted → (get_or file 4 0 ≡ 1 → ⊥) → file_refusal file ≡ 15
  refuses_version c h =
      by_head 14
      (simp (le-ltb _ _ c.long, le-ltb _ _ c.small, ne_eqb _ _ c.filled, eq-eqb _ _ c.counted, ne_eqb _ _ h))

  -- no refusal by the first five bytes
  pub head_accepted : Counted → get_or file 4 0 ≡ 1 → head_refusal file ≡ 0
  head_accepted c h =
      simp (le-ltb _ _ c.long, le-ltb _ _ c.small, ne_eqb _ _ c.filled, eq-eqb _ _ c.counted, eq-eqb _ _ h)

  -- "16 (a record with unknown kind, wrong length, role above 1, or running past the end)"
  pub refuses_record : head_refusal file ≡ 0 → records_in file ≡ none → file_refusal file ≡ 16
  unfolding file_refusal
  refuses_record head h = rw (head, h)
