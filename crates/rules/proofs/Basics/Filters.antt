-- Laws of lists that are filtered and joined: who stands in them, that nobody stands there twice, and who comes before whom.
use Prim.Native.Nat.{ℕ}
use mathlib.Core.Path.{◌≡◌, refl, sym, ap, ◌∙◌}
use mathlib.Core.List.{List, [], ◌∷◌, ◌++◌}
use mathlib.Core.Bool.{Bool, true, false, cond, ◌&&◌, ◌||◌}
use lib.Dec.{eqb}
use borrow.Author.Tests.{ne_eqb}
use Rattle.rules.specs.Tests.{member, distinct, filter}
use Rattle.rules.specs.Order.{earlier}
use Rattle.rules.proofs.Basics.Views.{Two, yes_true, no_false, two, clash, Same, equal, different, same}
use Rattle.rules.proofs.Basics.Views.{and_false_left, and_false_right, Either, first, second, or_true_cases}
use Rattle.rules.proofs.Basics.Members.{member_here, member_there, member_tail, distinct_head, distinct_tail, distinct_cons}

module _ (f : ℕ → Bool) where
  -- the head of a list is taken, or it is not
  filter-by : (P : List ℕ → Type 0) (x : ℕ) (xs : List ℕ)
      → (f x ≡ true → P (x ∷ filter f xs)) → (f x ≡ false → P (filter f xs)) → Two (f x) → P (filter f (x ∷ xs))
  unfolding filter
  filter-by P x xs g h (yes_true e) = rw e (g e)
  filter-by P x xs g h (no_false e) = rw e (h e)

  -- so what holds in both cases holds
  pub filter-cases : (P : List ℕ → Type 0) (x : ℕ) (xs : List ℕ)
      → (f x ≡ true → P (x ∷ filter f xs)) → (f x ≡ false → P (filter f xs)) → P (filter f (x ∷ xs))
  filter-cases P x xs g h = filter-by P x xs g h (two (f x))

  -- one step: the head is n or not, and is taken or not
  member_filter_by : (n x : ℕ) (xs : List ℕ) → member n (filter f xs) ≡ member n xs && f n → Same n x → Two (f x)
      → member n (filter f (x ∷ xs)) ≡ member n (x ∷ xs) && f n
  unfolding filter member
  member_filter_by n x xs r (equal p q) (yes_true e) = let z : f n ≡ true = ap f p ∙ e in rw (e, q, z)
  member_filter_by n x xs r (equal p q) (no_false e) =
      let z : f n ≡ false = ap f p ∙ e in rw (e, q, z) (r ∙ and_false_right (member n xs) (f n) z)
  member_filter_by n x xs r (different p q) (yes_true e) = rw (e, q) r
  member_filter_by n x xs r (different p q) (no_false e) = rw (e, q) r

  -- the members of a filtered list are those of the list that the test takes
  pub member_filter : (n : ℕ) (l : List ℕ) → member n (filter f l) ≡ member n l && f n
  unfolding filter member
  member_filter n [] = refl
  member_filter n (x ∷ xs) = member_filter_by n x xs (member_filter n xs) (same n x) (two (f x))

  -- nobody stands there twice who did not
  pub distinct_filter : (l : List ℕ) → distinct l ≡ true → distinct (filter f l) ≡ true
  unfolding filter
  distinct_filter [] d = d
  distinct_filter (x ∷ xs) d =
      let rest = distinct_filter xs (distinct_tail x xs d) in
      filter-cases (λ l. distinct l ≡ true) x xs
      (λ e. distinct_cons x (filter f xs) (member_filter x xs ∙ and_false_left (member x xs) (f x) (distinct_head x xs d)) rest)
      (λ e. rest)

  -- those that are taken keep their order
  pub earlier_filter : (l : List ℕ) (a b : ℕ) → f a ≡ true → f b ≡ true → earlier (filter f l) a b ≡ earlier l a b
  unfolding filter earlier
  earlier_filter [] a b ha hb = refl
  earlier_filter (x ∷ xs) a b ha hb =
      filter-cases (λ l. earlier l a b ≡ earlier (x ∷ xs) a b) x xs
      (λ e. ap (λ (r : Bool). cond (eqb x b) false (cond (eqb x a) true r)) (earlier_filter xs a b ha hb))
      (λ e. rw (ne_eqb x b (λ p. clash (f b) hb (rw p at e)), ne_eqb x a (λ p. clash (f a) ha (rw p at e))) (earlier_filter xs a b ha hb))

-- one of three, however they are grouped
or_or : (a b c d : Bool) → d ≡ b || c → (a || d) ≡ (a || b) || c
or_or true b c d e = refl
or_or false b c d e = e

-- the members of two lists joined are the members of both
pub member_append : (n : ℕ) (xs ys : List ℕ) → member n (xs ++ ys) ≡ member n xs || member n ys
unfolding member
member_append n [] ys = refl
member_append n (x ∷ xs) ys = or_or (eqb n x) (member n xs) (member n ys) (member n (xs ++ ys)) (member_append n xs ys)

-- nobody stands there twice if nobody stands in both
pub distinct_append : (xs ys : List ℕ) → distinct xs ≡ true → distinct ys ≡ true
    → ((n : ℕ) → member n xs ≡ true → member n ys ≡ false) → distinct (xs ++ ys) ≡ true
distinct_append [] ys d e apart = e
distinct_append (x ∷ xs) ys d e apart =
    distinct_cons x (xs ++ ys)
    (member_append x xs ys ∙ rw (distinct_head x xs d) (apart x (member_here x x xs refl)))
    (distinct_append xs ys (distinct_tail x xs d) e (λ n h. apart n (member_there n x xs h)))

-- where a comes before b in two lists joined: both in the first, one in each, or both in the second
pub data Sooner (xs ys : List ℕ) (a b : ℕ) : Type 0 where
  within : member a xs ≡ true → member b xs ≡ true → earlier xs a b ≡ true → Sooner xs ys a b
  across : member a xs ≡ true → member b ys ≡ true → Sooner xs ys a b
  beyond : member b ys ≡ true → earlier ys a b ≡ true → Sooner xs ys a b

-- behind a head that is neither
sooner_there : (x : ℕ) (xs ys : List ℕ) (a b : ℕ) → eqb x a ≡ false → eqb x b ≡ false → Sooner xs ys a b → Sooner (x ∷ xs) ys a b
unfolding earlier
sooner_there x xs ys a b p q (within ha hb e) = within (member_there a x xs ha) (member_there b x xs hb) (rw (q, p) e)
sooner_there x xs ys a b p q (across ha hb) = across (member_there a x xs ha) hb
sooner_there x xs ys a b p q (beyond hb e) = beyond hb e

-- from a head that is a
sooner_here : (x : ℕ) (xs ys : List ℕ) (a b : ℕ) → x ≡ a → eqb x a ≡ true → eqb x b ≡ false → Either (member b xs) (member b ys)
    → Sooner (x ∷ xs) ys a b
unfolding earlier
sooner_here x xs ys a b e p q (first h) = within (member_here a x xs (sym e)) (member_there b x xs h) (rw (q, p))
sooner_here x xs ys a b e p q (second _ h) = across (member_here a x xs (sym e)) h

-- at any head
sooner_by : (x : ℕ) (xs ys : List ℕ) (a b : ℕ) → member b (x ∷ (xs ++ ys)) ≡ true → earlier (x ∷ (xs ++ ys)) a b ≡ true
    → (member b (xs ++ ys) ≡ true → earlier (xs ++ ys) a b ≡ true → Sooner xs ys a b)
    → Same x b → Same x a → Sooner (x ∷ xs) ys a b
unfolding earlier
sooner_by x xs ys a b h e r (equal p q) _ = clash false (rw q at e) refl
sooner_by x xs ys a b h e r (different p q) (equal v w) =
    sooner_here x xs ys a b v w q
    (or_true_cases (member b xs) (member b ys) (sym (member_append b xs ys) ∙ member_tail b x (xs ++ ys) p h))
sooner_by x xs ys a b h e r (different p q) (different v w) =
    sooner_there x xs ys a b w q (r (member_tail b x (xs ++ ys) p h) (rw (q, w) at e))

-- one of the three it is
pub earlier_append : (xs ys : List ℕ) (a b : ℕ) → member b (xs ++ ys) ≡ true → earlier (xs ++ ys) a b ≡ true → Sooner xs ys a b
earlier_append [] ys a b h e = beyond h e
earlier_append (x ∷ xs) ys a b h e = sooner_by x xs ys a b h e (earlier_append xs ys a b) (same x b) (same x a)
