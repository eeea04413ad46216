-- Parts and their joining undo each other.
use Prim.Native.Nat.{ℕ}
use mathlib.Core.Path.{◌≡◌, refl, sym, ap, ap₂, ◌∙◌}
use mathlib.Core.Bool.{Bool, true, false, not}
use mathlib.Core.List.{List, [], ◌∷◌, ◌++◌}
use lib.Dec.{eqb}
use borrow.Author.Tests.{eqb-true}
use Rattle.rules.specs.Tests.{all}
use Rattle.rules.proofs.Basics.Views.{Two, yes_true, no_false, two, and_true_left, and_true_right}
use Rattle.list_line.specs.Reading.{on_first, parts}

-- parts with a byte between each two
unfoldable pub joined : ℕ → List (List ℕ) → List ℕ
joined b [] = []
joined b (part ∷ []) = part
joined b (part ∷ next ∷ rest) = part ++ (b ∷ joined b (next ∷ rest))

-- no byte passes the test
abbrev pub none_pass : (ℕ → Bool) → List ℕ → Type 0
none_pass test l = all (λ b. not (test b)) l ≡ true

not_passing : (b : Bool) → not b ≡ true → b ≡ false
not_passing true e = sym e
not_passing false e = refl

pub passes_head : (test : ℕ → Bool) (b : ℕ) (rest : List ℕ) → none_pass test (b ∷ rest) → test b ≡ false
unfolding all
passes_head test b rest h = not_passing (test b) (and_true_left (not (test b)) (all (λ b. not (test b)) rest) h)

pub passes_tail : (test : ℕ → Bool) (b : ℕ) (rest : List ℕ) → none_pass test (b ∷ rest) → none_pass test rest
unfolding all
passes_tail test b rest h = and_true_right (not (test b)) (all (λ b. not (test b)) rest) h

-- the first part ends at the first byte that passes
pub parts_between : (test : ℕ → Bool) (part : List ℕ) (b : ℕ) (rest : List ℕ) → none_pass test part → test b ≡ true
    → parts test (part ++ (b ∷ rest)) ≡ part ∷ parts test rest
unfolding parts
parts_between test [] b rest h e = rw e refl
parts_between test (c ∷ part) b rest h e =
    rw (passes_head test c part h) (ap (on_first c) (parts_between test part b rest (passes_tail test c part h) e))

pub parts_alone : (test : ℕ → Bool) (part : List ℕ) → none_pass test part → parts test part ≡ part ∷ []
unfolding parts
parts_alone test [] h = refl
parts_alone test (c ∷ part) h = rw (passes_head test c part h) (ap (on_first c) (parts_alone test part (passes_tail test c part h)))

-- there is always a part
pub data Some (l : List (List ℕ)) : Type 0 where
  some_part : (part : List ℕ) (rest : List (List ℕ)) → l ≡ part ∷ rest → Some l

first_is : (b : ℕ) (l : List (List ℕ)) → Some (on_first b l)
first_is b [] = some_part (b ∷ []) [] refl
first_is b (part ∷ rest) = some_part (b ∷ part) rest refl

pub parts_some : (test : ℕ → Bool) (l : List ℕ) → Some (parts test l)
unfolding parts
parts_some test [] = some_part [] [] refl
parts_some test (b ∷ rest) = by (two (test b))
  where
    by : Two (test b) → Some (parts test (b ∷ rest))
    by (yes_true e) = rw e (some_part [] (parts test rest) refl)
    by (no_false e) = rw e (first_is b (parts test rest))

-- joined again they are the text
join_first : (sep b : ℕ) (l : List (List ℕ)) → Some l → joined sep (on_first b l) ≡ b ∷ joined sep l
unfolding joined
join_first sep b l (some_part part rest e) = rw e (by rest)
  where
    by : (rest : List (List ℕ)) → joined sep (on_first b (part ∷ rest)) ≡ b ∷ joined sep (part ∷ rest)
    by [] = refl
    by (next ∷ rest) = refl

join_empty : (sep : ℕ) (l : List (List ℕ)) → Some l → joined sep ([] ∷ l) ≡ sep ∷ joined sep l
unfolding joined
join_empty sep l (some_part part rest e) = rw e refl

joined_by : (sep b : ℕ) (rest : List ℕ) → joined sep (parts (λ b. eqb b sep) rest) ≡ rest → Two (eqb b sep)
    → joined sep (parts (λ b. eqb b sep) (b ∷ rest)) ≡ b ∷ rest
unfolding parts
joined_by sep b rest ih (yes_true e) =
    rw e (join_empty sep (parts (λ b. eqb b sep) rest) (parts_some (λ b. eqb b sep) rest)
    ∙ ap₂ (λ (x : ℕ) (l : List ℕ). x ∷ l) (sym (eqb-true b sep e)) ih)
joined_by sep b rest ih (no_false e) =
    rw e (join_first sep b (parts (λ b. eqb b sep) rest) (parts_some (λ b. eqb b sep) rest) ∙ ap (λ (l : List ℕ). b ∷ l) ih)

pub joined_parts : (sep : ℕ) (l : List ℕ) → joined sep (parts (λ b. eqb b sep) l) ≡ l
unfolding parts joined
joined_parts sep [] = refl
joined_parts sep (b ∷ rest) = joined_by sep b rest (joined_parts sep rest) (two (eqb b sep))
