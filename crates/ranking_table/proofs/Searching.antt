-- The smallest interval that a test takes: there is one such answer only, and a search through a few candidates finds it if below every
-- interval that the test takes there is a candidate that it takes.
use Prim.Native.Nat.{ℕ, zero, suc, ◌+◌, ◌≤◌, ◌<◌, min}
use native.Mathlib.Omega.{arith}
use native.Mathlib.Nat.{eq-or-lt_of_le}
use mathlib.Core.Path.{◌≡◌, refl, sym, ap, ◌∙◌}
use mathlib.Core.Logic.{◌⊎◌, inl, inr, ⊎_elim}
use mathlib.Core.List.{List, [], ◌∷◌}
use mathlib.Core.Bool.{Bool, true, false}
use lib.Dec.{leb, ltb}
use lib.ListN.{length, get_or}
use borrow.Author.Tests.{leb-true, leb-false, le-leb, ltb-true, ltb-false}
use Rattle.std.specs.Prelude.{Some}
use Rattle.std.specs.List.{filter, fold, reduce}
use Rattle.rules.proofs.Basics.Views.{Two, yes_true, no_false, two, clash}
use Rattle.ranking_table.specs.Ranking.{smallest_from, smallest}
use Rattle.ranking_table.specs.Good.{there, better}

-- the answer of the search over n intervals from i on
record Sought (test : ℕ → Bool) (i n r : ℕ) : Type 0 where
  low : i ≤ r
  high : r ≤ i + n
  takes : r < i + n → test r ≡ true
  first : (j : ℕ) → i ≤ j → j < r → test j ≡ false

module _ (test : ℕ → Bool) where
  sought : (i n : ℕ) → Sought test i n (smallest_from test i n)
  unfolding smallest_from
  sought i zero = record { low = omega arith; high = omega arith; takes = λ h. absurd (omega arith); first = λ j a b. absurd (omega arith) }
  sought i (suc n) = by (two (test i)) (sought (suc i) n)
    where
      by : Two (test i) → Sought test (suc i) n (smallest_from test (suc i) n) → Sought test i (suc n) (smallest_from test i (suc n))
      by (yes_true e) s =
          rw e (record { low = omega arith; high = omega arith; takes = λ h. e; first = λ j a b. absurd (omega arith) })
      by (no_false e) s =
          rw e (record {
            low = omega (arith, s.low);
            high = omega (arith, s.high);
            takes = λ h. s.takes (omega arith);
            first = λ j a b. ⊎_elim (λ q. ap test (sym q) ∙ e) (λ less. s.first j (omega arith) b) (eq-or-lt_of_le a);
          })

-- the smallest of all intervals; 60,001 where the test takes none
pub record Smallest (test : ℕ → Bool) (r : ℕ) : Type 0 where
  pub low : 1 ≤ r
  pub high : r ≤ 60001
  pub takes : r ≤ 60000 → test r ≡ true
  pub first : (j : ℕ) → 1 ≤ j → j < r → test j ≡ false

module _ (test : ℕ → Bool) where
  pub smallest_is : Smallest test (smallest test)
  smallest_is =
      let s = sought test 1 60000 in
      record { low = s.low; high = omega (arith, s.high); takes = λ h. s.takes (omega arith); first = s.first }

  not_below : {a b : ℕ} → Smallest test a → Smallest test b → a < b → ⊥
  not_below {a} {b} s t less = clash (test a) (s.takes (omega (arith, t.high))) (t.first a s.low less)

  pub only_smallest : {r : ℕ} → Smallest test r → r ≡ smallest test
  only_smallest {r} s = by (two (ltb r (smallest test))) (two (ltb (smallest test) r))
    where
      by : Two (ltb r (smallest test)) → Two (ltb (smallest test) r) → r ≡ smallest test
      by (yes_true e) _ = absurd (not_below s smallest_is (ltb-true r (smallest test) e))
      by (no_false e) (yes_true f) = absurd (not_below smallest_is s (ltb-true (smallest test) r f))
      by (no_false e) (no_false f) = omega (arith, ltb-false r (smallest test) e, ltb-false (smallest test) r f)

-- a candidate that the test takes, not above i
pub record Candidate (test : ℕ → Bool) (at : ℕ → ℕ) (n i : ℕ) : Type 0 where
  pub number : ℕ
  pub listed : number < n
  pub below : at number ≤ i
  pub takes : test (at number) ≡ true

-- the least of those numbers of a list that are taken, and of one more
module _ (taken : ℕ → Bool) where
  record Taken (xs : List ℕ) (m : ℕ) : Type 0 where
    number : ℕ
    listed : number < length xs
    takes : taken (get_or xs number 0) ≡ true
    is : get_or xs number 0 ≡ m

  record Least (xs : List ℕ) (past m : ℕ) : Type 0 where
    high : m ≤ past
    least : (k : ℕ) → k < length xs → taken (get_or xs k 0) ≡ true → m ≤ get_or xs k 0
    from : (m ≡ past) ⊎ Taken xs m

  later : (x : ℕ) {xs : List ℕ} {m : ℕ} → Taken xs m → Taken (x ∷ xs) m
  later x t = record { number = suc t.number; listed = omega (arith, t.listed); takes = t.takes; is = t.is }

  module _ (x : ℕ) {xs : List ℕ} {past m : ℕ} where
    takes_one : taken x ≡ true → Least xs (min past x) m → Least (x ∷ xs) past m
    takes_one e l =
        record {
          high = omega (arith, l.high);
          least = λ k h f. by k h f;
          from = ⊎_elim (λ q. one q (two (leb past x))) (λ t. inr (later x t)) l.from;
        }
      where
        by : (k : ℕ) → k < length (x ∷ xs) → taken (get_or (x ∷ xs) k 0) ≡ true → m ≤ get_or (x ∷ xs) k 0
        by zero h f = omega (arith, l.high)
        by (suc k) h f = l.least k (omega arith) f

        one : m ≡ min past x → Two (leb past x) → (m ≡ past) ⊎ Taken (x ∷ xs) m
        one q (yes_true le) = inl (omega (arith, q, leb-true past x le))
        one q (no_false le) = inr (record { number = 0; listed = omega arith; takes = e; is = omega (arith, q, leb-false past x le) })

    takes_none : taken x ≡ false → Least xs past m → Least (x ∷ xs) past m
    takes_none e l =
        record { high = l.high; least = λ k h f. by k h f; from = ⊎_elim (λ q. inl q) (λ t. inr (later x t)) l.from }
      where
        by : (k : ℕ) → k < length (x ∷ xs) → taken (get_or (x ∷ xs) k 0) ≡ true → m ≤ get_or (x ∷ xs) k 0
        by zero h f = clash (taken x) f e
        by (suc k) h f = l.least k (omega arith) f

  least_of : (xs : List ℕ) (past : ℕ) → Least xs past (fold min past (filter taken xs))
  least_of [] past = record { high = omega arith; least = λ k h f. absurd (omega arith); from = inl refl }
  least_of (x ∷ xs) past = by (two (taken x)) (least_of xs (min past x)) (least_of xs past)
    where
      by : Two (taken x) → Least xs (min past x) (fold min (min past x) (filter taken xs)) → Least xs past (fold min past (filter taken xs))
          → Least (x ∷ xs) past (fold min past (filter taken (x ∷ xs)))
      by (yes_true e) with_x _ = rw e (takes_one x e with_x)
      by (no_false e) _ without = rw e (takes_none x e without)

  -- none is taken where the least is 60,001
  reduce_is : (xs : List ℕ) → ((k : ℕ) → k < length xs → taken (get_or xs k 0) ≡ true → get_or xs k 0 ≤ 60000)
      → reduce min (filter taken xs) ≡ there (fold min 60001 (filter taken xs))
  reduce_is [] f = refl
  reduce_is (x ∷ xs) f = by (two (taken x)) (reduce_is xs (λ k h. f (suc k) (omega arith)))
    where
      by : Two (taken x) → reduce min (filter taken xs) ≡ there (fold min 60001 (filter taken xs))
          → reduce min (filter taken (x ∷ xs)) ≡ there (fold min 60001 (filter taken (x ∷ xs)))
      by (yes_true e) _ =
          let fits = f 0 (omega arith) e in
          let lower : min 60001 x ≡ x = omega (arith, fits) in
          let inside : fold min x (filter taken xs) ≤ 60000 = omega (arith, fits, (least_of xs x).high) in
          let here : Some (fold min x (filter taken xs)) ≡ there (fold min x (filter taken xs)) =
          rw (le-leb (fold min x (filter taken xs)) 60000 inside) refl in
          rw e (here ∙ ap (λ (first : ℕ). there (fold min first (filter taken xs))) (sym lower))
      by (no_false e) h = rw e h

-- one candidate after another, each looked at only below the best so far, ends in the least of those that are taken
module _ (taken test : ℕ → Bool) (agree : (i : ℕ) → i ≤ 60000 → taken i ≡ test i) where
  better_is : (xs : List ℕ) (best : ℕ) → best ≤ 60001 → fold (better test) best xs ≡ fold min best (filter taken xs)
  better_is [] best h = refl
  better_is (x ∷ xs) best h = by (two (ltb x best)) (two (taken x)) (λ b within. better_is xs b within)
    where
      by : Two (ltb x best) → Two (taken x) → ((b : ℕ) → b ≤ 60001 → fold (better test) b xs ≡ fold min b (filter taken xs))
          → fold (better test) best (x ∷ xs) ≡ fold min best (filter taken (x ∷ xs))
      by (yes_true l) (yes_true e) rest =
          let less = ltb-true x best l in
          let takes : test x ≡ true = sym (agree x (omega (arith, less, h))) ∙ e in
          let least : min best x ≡ x = omega (arith, less) in
          rw (l, takes, e) (rest x (omega (arith, less, h)) ∙ ap (λ (m : ℕ). fold min m (filter taken xs)) (sym least))
      by (yes_true l) (no_false e) rest =
          let less = ltb-true x best l in
          let takes : test x ≡ false = sym (agree x (omega (arith, less, h))) ∙ e in
          rw (l, takes, e) (rest best h)
      by (no_false l) (yes_true e) rest =
          let least : min best x ≡ best = omega (arith, ltb-false x best l) in
          rw (l, e) (rest best h ∙ ap (λ (m : ℕ). fold min m (filter taken xs)) (sym least))
      by (no_false l) (no_false e) rest = rw (l, e) (rest best h)

-- the least of the candidates that the code takes is the smallest that the test takes
module _ (taken test : ℕ → Bool) (xs : List ℕ) (at : ℕ → ℕ) where
  -- the list of the candidates: the test is all that the code looks at, but for those past the longest
  pub record Tried : Type 0 where
    pub is : (k : ℕ) → k < length xs → get_or xs k 0 ≡ at k
    pub some : (k : ℕ) → k < length xs → 1 ≤ at k
    pub fits : (k : ℕ) → k < length xs → taken (at k) ≡ true → at k ≤ 60000
    pub tested : (k : ℕ) → k < length xs → taken (at k) ≡ true → test (at k) ≡ true
    pub takes : (k : ℕ) → k < length xs → at k ≤ 60000 → test (at k) ≡ true → taken (at k) ≡ true

  module _ (t : Tried) (descend : (i : ℕ) → 1 ≤ i → test i ≡ true → Candidate test at (length xs) i) where
    of_taken : {m : ℕ} → Taken taken xs m → (1 ≤ m) × (test m ≡ true)
    of_taken h =
        let here = t.is h.number h.listed in (
          omega (arith, here, h.is, t.some h.number h.listed),
          ap test (sym h.is ∙ here) ∙ t.tested h.number h.listed (ap taken (sym here) ∙ h.takes),
        )

    first_of : {m : ℕ} → Least taken xs 60001 m → (j : ℕ) → 1 ≤ j → j < m → Two (test j) → test j ≡ false
    first_of l j some less (yes_true e) =
        let c = descend j some e in
        let here = t.is c.number c.listed in
        let takes = t.takes c.number c.listed (omega (arith, c.below, l.high)) c.takes in
        absurd (omega (arith, here, c.below, l.least c.number c.listed (ap taken here ∙ takes)))
    first_of l j some less (no_false e) = e

    smallest_of : {m : ℕ} → Least taken xs 60001 m → Smallest test m
    smallest_of {m} l =
        record {
          low = ⊎_elim (λ q. omega (arith, q)) (λ h. (of_taken h).0) l.from;
          high = l.high;
          takes = λ inside. ⊎_elim (λ q. absurd (omega (arith, q, inside))) (λ h. (of_taken h).1) l.from;
          first = λ j some less. first_of l j some less (two (test j));
        }

    least_by : fold min 60001 (filter taken xs) ≡ smallest test
    least_by = only_smallest test (smallest_of (least_of taken xs 60001))

    pub least_is : reduce min (filter taken xs) ≡ there (smallest test)
    least_is = reduce_is taken xs fits ∙ ap there least_by
      where
        fits : (k : ℕ) → k < length xs → taken (get_or xs k 0) ≡ true → get_or xs k 0 ≤ 60000
        fits k h e = omega (arith, t.is k h, t.fits k h (ap taken (sym (t.is k h)) ∙ e))

    -- so is the best, where each is looked at only below the best so far
    pub best_is : ((i : ℕ) → i ≤ 60000 → taken i ≡ test i) → fold (better test) 60001 xs ≡ smallest test
    best_is agree = better_is taken test agree xs 60001 (omega arith) ∙ least_by
