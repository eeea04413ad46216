-- What the number of rows that hold an interval says: the rows in turn, each of which holds it or does not.
use Prim.Native.Nat.{ℕ, zero, suc, ◌≤◌}
use native.Mathlib.Omega.{arith}
use mathlib.Core.Path.{◌≡◌, refl, ap}
use mathlib.Core.List.{List, [], ◌∷◌}
use mathlib.Core.Bool.{true, false}
use lib.Dec.{leb}
use borrow.Author.Tests.{leb-true, le-leb}
use Rattle.rules.proofs.Basics.Views.{Two, yes_true, no_false, two, clash, and_true_left, and_true_right, and_true_both}
use Rattle.ranking_table.specs.declared.Row.{Row}
use Rattle.ranking_table.specs.Ranking.{holds, holding, priority_in}
use Rattle.ranking_table.specs.Good.{row_at, In, InOne, InTwo, Missing}

-- the test of one row
module _ (i : ℕ) (row : Row) where
  pub from_of : holds i row ≡ true → row.first ≤ i
  from_of h = leb-true row.first i (and_true_left (leb row.first i) (leb i row.last) h)

  pub to_of : holds i row ≡ true → i ≤ row.last
  to_of h = leb-true i row.last (and_true_right (leb row.first i) (leb i row.last) h)

  pub holds_of : row.first ≤ i → i ≤ row.last → holds i row ≡ true
  holds_of low high =
      and_true_both (leb row.first i) (leb i row.last) (le-leb row.first i low) (le-leb i row.last high)

-- one row more, in front
module _ (i : ℕ) (row : Row) (rows : List Row) where
  abbrev all : List Row
  all = row ∷ rows

  later : {k : ℕ} → In rows i k → In all i (suc k)
  later h = record { listed = omega (arith, h.listed); from = h.from; to = h.to }

  back : {k : ℕ} → In all i (suc k) → In rows i k
  back h = record { listed = omega (arith, h.listed); from = h.from; to = h.to }

  here : holds i row ≡ true → In all i 0
  here h = record { listed = omega arith; from = from_of i row h; to = to_of i row h }

  not_here : holds i row ≡ false → In all i 0 → ⊥
  not_here e h = clash (holds i row) (holds_of i row h.from h.to) e

-- the number of rows, and what it says
pub data Count (rows : List Row) (i : ℕ) : ℕ → Type 0 where
  in_none : Missing rows i → Count rows i 0
  in_one : InOne rows i → Count rows i 1
  in_more : (n : ℕ) → InTwo rows i → Count rows i (suc (suc n))

module _ (i : ℕ) (row : Row) (rows : List Row) where
  -- by the number of the row
  none_held : Missing rows i → holds i row ≡ false → Missing (row ∷ rows) i
  none_held m e zero h = not_here i row rows e h
  none_held m e (suc k) h = m k (back i row rows h)

  first_only : Missing rows i → (k : ℕ) → In (row ∷ rows) i k → k ≡ 0
  first_only m zero h = refl
  first_only m (suc k) h = absurd (m k (back i row rows h))

  later_only : (o : InOne rows i) → holds i row ≡ false → (k : ℕ) → In (row ∷ rows) i k → k ≡ suc o.row
  later_only o e zero h = absurd (not_here i row rows e h)
  later_only o e (suc k) h = ap suc (o.only k (back i row rows h))

  held : {n : ℕ} → holds i row ≡ true → Count rows i n → Count (row ∷ rows) i (suc n)
  held e (in_none m) = in_one (record { row = 0; holds = here i row rows e; only = first_only m })
  held e (in_one o) =
      in_more 0 (record {
        one = 0;
        other = suc o.row;
        apart = omega arith;
        holds_one = here i row rows e;
        holds_other = later i row rows o.holds;
      })
  held e (in_more n t) =
      in_more (suc n) (record {
        one = 0;
        other = suc t.one;
        apart = omega arith;
        holds_one = here i row rows e;
        holds_other = later i row rows t.holds_one;
      })

  not_held : {n : ℕ} → holds i row ≡ false → Count rows i n → Count (row ∷ rows) i n
  not_held e (in_none m) = in_none (none_held m e)
  not_held e (in_one o) = in_one (record { row = suc o.row; holds = later i row rows o.holds; only = later_only o e })
  not_held e (in_more n t) =
      in_more n (record {
        one = suc t.one;
        other = suc t.other;
        apart = omega (arith, t.apart);
        holds_one = later i row rows t.holds_one;
        holds_other = later i row rows t.holds_other;
      })

no_row_holds : (i k : ℕ) → In [] i k → ⊥
no_row_holds i k h = absurd (omega (arith, h.listed))

pub counted : (rows : List Row) (i : ℕ) → Count rows i (holding rows i)
unfolding holding
counted [] i = in_none (no_row_holds i)
counted (row ∷ rows) i = by (two (holds i row)) (counted rows i)
  where
    by : Two (holds i row) → Count rows i (holding rows i) → Count (row ∷ rows) i (holding (row ∷ rows) i)
    by (yes_true e) c = rw e (held i row rows e c)
    by (no_false e) c = rw e (not_held i row rows e c)

-- so the number is 0, 1 or more exactly where
module _ (rows : List Row) (i : ℕ) where
  none_in : (n : ℕ) → Count rows i n → n ≡ 0 → Missing rows i
  none_in n (in_none m) e = m
  none_in n (in_one o) e = absurd (omega arith)
  none_in n (in_more m t) e = absurd (omega arith)

  one_in : (n : ℕ) → Count rows i n → n ≡ 1 → InOne rows i
  one_in n (in_none m) e = absurd (omega arith)
  one_in n (in_one o) e = o
  one_in n (in_more m t) e = absurd (omega arith)

  two_in : (n : ℕ) → Count rows i n → 2 ≤ n → InTwo rows i
  two_in n (in_none m) e = absurd (omega arith)
  two_in n (in_one o) e = absurd (omega arith)
  two_in n (in_more m t) e = t

  in_no_two : Missing rows i → InTwo rows i → ⊥
  in_no_two m t = m t.one t.holds_one

  pub not_two : InOne rows i → InTwo rows i → ⊥
  not_two o t = absurd (omega (arith, o.only t.one t.holds_one, o.only t.other t.holds_other, t.apart))

  in_none_zero : (n : ℕ) → Count rows i n → Missing rows i → n ≡ 0
  in_none_zero n (in_none m) f = refl
  in_none_zero n (in_one o) f = absurd (f o.row o.holds)
  in_none_zero n (in_more m t) f = absurd (f t.one t.holds_one)

  in_one_one : (n : ℕ) → Count rows i n → InOne rows i → n ≡ 1
  in_one_one n (in_none m) o = absurd (m o.row o.holds)
  in_one_one n (in_one _) o = refl
  in_one_one n (in_more m t) o = absurd (not_two o t)

  in_two_more : (n : ℕ) → Count rows i n → InTwo rows i → 2 ≤ n
  in_two_more n (in_none m) t = absurd (in_no_two m t)
  in_two_more n (in_one o) t = absurd (not_two o t)
  in_two_more n (in_more m _) t = omega arith

  pub missing_of : holding rows i ≡ 0 → Missing rows i
  missing_of = none_in (holding rows i) (counted rows i)

  pub of_missing : Missing rows i → holding rows i ≡ 0
  of_missing = in_none_zero (holding rows i) (counted rows i)

  pub one_of : holding rows i ≡ 1 → InOne rows i
  one_of = one_in (holding rows i) (counted rows i)

  pub of_one : InOne rows i → holding rows i ≡ 1
  of_one = in_one_one (holding rows i) (counted rows i)

  pub two_of : 2 ≤ holding rows i → InTwo rows i
  two_of = two_in (holding rows i) (counted rows i)

  pub of_two : InTwo rows i → 2 ≤ holding rows i
  of_two = in_two_more (holding rows i) (counted rows i)

-- the only row that holds an interval gives its priority
pub priority_of : (rows : List Row) (i k : ℕ) → In rows i k → ((j : ℕ) → In rows i j → j ≡ k)
    → priority_in rows i ≡ (row_at rows k).priority
unfolding priority_in
priority_of [] i k h only = absurd (no_row_holds i k h)
priority_of (row ∷ rows) i zero h only = rw (holds_of i row h.from h.to) refl
priority_of (row ∷ rows) i (suc k) h only =
    by (two (holds i row)) (priority_of rows i k (back i row rows h) (λ j g. omega (arith, only (suc j) (later i row rows g))))
  where
    by : Two (holds i row) → priority_in rows i ≡ (row_at rows k).priority → priority_in (row ∷ rows) i ≡ (row_at rows k).priority
    by (yes_true e) _ = absurd (omega (arith, only 0 (here i row rows e)))
    by (no_false e) p = rw e p
