-- Judging along the turn order from its back: one timeslice more, taken if it may run, gives the topmost of one more.
use Prim.Native.Nat.{ℕ}
use mathlib.Core.Path.{◌≡◌, refl, sym, ap, ◌∙◌}
use mathlib.Core.List.{List, [], ◌∷◌, ◌++◌, append-nil, append_assoc}
use lib.ListN.{length}
use native.Mathlib.Omega.{arith}
use mathlib.Core.Bool.{Bool, true, false}
use Rattle.rules.specs.declared.Slice.{Slice}
use Rattle.rules.specs.Order.{upper, topmost}
use Rattle.std.specs.Prelude as std
use Rattle.std.specs.Prelude.{None}
use Rattle.tables.specs.Sets.{sought_of}

module _ (slices : List Slice) (runs : ℕ → Bool) (turns : List ℕ) where
  -- of those that `rest` has before them the topmost is known
  pub record Judged (rest : List ℕ) (top : std.Option ℕ) : Type 0 where
    pub judged : List ℕ
    pub whole : rest ++ judged ≡ turns
    pub found : sought_of top ≡ topmost slices runs judged

  pub none_judged : (rest : List ℕ) → rest ≡ turns → Judged rest None
  unfolding topmost
  none_judged rest e = record { judged = []; whole = append-nil rest ∙ e; found = refl }

  -- the last of those that are left is judged
  module _ (rest : List ℕ) (top : std.Option ℕ) (j : Judged rest top) (t : ℕ) (rest' : List ℕ) (last : rest ≡ rest' ++ (t ∷ [])) where
    whole' : rest' ++ (t ∷ j.judged) ≡ turns
    whole' = sym (append_assoc rest' (t ∷ []) j.judged) ∙ ap (λ (l : List ℕ). l ++ j.judged) (sym last) ∙ j.whole

    pub one_taken : (top' : std.Option ℕ) → runs t ≡ true → sought_of top' ≡ upper slices t (sought_of top) → Judged rest' top'
    unfolding topmost
    one_taken top' taken e = record { judged = t ∷ j.judged; whole = whole'; found = rw taken (e ∙ ap (upper slices t) j.found) }

    pub one_left : runs t ≡ false → Judged rest' top
    unfolding topmost
    one_left left = record { judged = t ∷ j.judged; whole = whole'; found = rw left j.found }

  pub all_judged : (rest : List ℕ) (top : std.Option ℕ) → Judged rest top → length rest ≡ 0
      → sought_of top ≡ topmost slices runs turns
  all_judged [] top j none_left = j.found ∙ ap (topmost slices runs) j.whole
  all_judged (t ∷ rest) top j none_left = absurd (omega arith)
