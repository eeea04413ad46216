-- The order of timeslices: `stands_above` is a strict total order on the turn order, and `topmost` finds the member that stands
-- above every other.
use Prim.Native.Nat.{ℕ, suc, ◌≤◌, ◌<◌}
use mathlib.Core.Path.{◌≡◌, refl, sym, ap, ◌∙◌, subst}
use mathlib.Core.List.{List, [], ◌∷◌}
use mathlib.Core.Bool.{Bool, true, false, cond, ◌&&◌, ◌||◌}
use mathlib.Core.Option.{Option, none, some}
use native.Mathlib.Omega.{arith}
use lib.Dec.{leb, ltb, eqb, leb-suc-suc}
use lib.ListN.{length, length-append}
use borrow.Author.Tests.{ltb-true, ltb-false, lt-ltb, le-ltb, le-leb, lt-leb, eqb-true, eq-eqb, ne_eqb}
use Rattle.rules.specs.Tests.{member, distinct}
use Rattle.rules.specs.declared.Slice.{Slice}
use Rattle.rules.specs.State.{priority_at}
use Rattle.rules.specs.Order.{earlier, stands_above, upper, topmost}
use Rattle.rules.specs.Timeslices.{last, without, to_back}
use Rattle.rules.proofs.Basics.Views.{Two, yes_true, no_false, two, clash, is_false, Same, equal, different, same}
use Rattle.rules.proofs.Basics.Views.{and_true_left, and_true_right, Either, first, second, or_true_cases, or_true_right}
use Rattle.rules.proofs.Basics.Members.{not_listed, member_here, member_there, member_tail, member_none, each}
use Rattle.rules.proofs.Basics.Members.{distinct_head, distinct_tail, distinct_cons}

-- how many stand in the list before a: the list's length where a is no member
pub place : List ℕ → ℕ → ℕ
place [] a = 0
place (t ∷ ts) a = cond (eqb t a) 0 (suc (place ts a))

place_here : (t : ℕ) (ts : List ℕ) (a : ℕ) → t ≡ a → place (t ∷ ts) a ≡ 0
unfolding place
place_here t ts a e = rw (eq-eqb t a e)

place_there : (t : ℕ) (ts : List ℕ) (a : ℕ) → (t ≡ a → ⊥) → place (t ∷ ts) a ≡ suc (place ts a)
unfolding place
place_there t ts a n = rw (ne_eqb t a n)

-- a is earlier than b where fewer stand before it
earlier_by : (t : ℕ) (ts : List ℕ) (a b : ℕ) → earlier ts a b ≡ ltb (place ts a) (place ts b)
    → Same t a → Same t b → earlier (t ∷ ts) a b ≡ ltb (place (t ∷ ts) a) (place (t ∷ ts) b)
unfolding earlier place
earlier_by t ts a b r (equal _ p) (equal _ q) = rw (p, q)
earlier_by t ts a b r (equal _ p) (different _ q) = rw (p, q) (sym (lt-ltb 0 (suc (place ts b)) (omega arith)))
earlier_by t ts a b r (different _ p) (equal _ q) = rw (p, q) (sym (le-ltb (suc (place ts a)) 0 (omega arith)))
earlier_by t ts a b r (different _ p) (different _ q) = rw (p, q) (r ∙ sym (leb-suc-suc (suc (place ts a)) (place ts b)))

earlier_place : (l : List ℕ) (a b : ℕ) → earlier l a b ≡ ltb (place l a) (place l b)
unfolding earlier place
earlier_place [] a b = refl
earlier_place (t ∷ ts) a b = earlier_by t ts a b (earlier_place ts a b) (same t a) (same t b)

-- a member has a place of its own
own_place_by : (t : ℕ) (ts : List ℕ) (a b : ℕ) → (member a ts ≡ true → place ts a ≡ place ts b → a ≡ b)
    → member a (t ∷ ts) ≡ true → place (t ∷ ts) a ≡ place (t ∷ ts) b → Same t a → Same t b → a ≡ b
own_place_by t ts a b r h e (equal p _) (equal q _) = cc
own_place_by t ts a b r h e (equal p _) (different q _) = absurd (omega (arith, place_here t ts a p, place_there t ts b q))
own_place_by t ts a b r h e (different p _) (equal q _) = absurd (omega (arith, place_there t ts a p, place_here t ts b q))
own_place_by t ts a b r h e (different p _) (different q _) =
    r (member_tail a t ts p h) (omega (arith, place_there t ts a p, place_there t ts b q))

own_place : (l : List ℕ) (a b : ℕ) → member a l ≡ true → place l a ≡ place l b → a ≡ b
own_place [] a b h e = clash (member a []) h (not_listed a)
own_place (t ∷ ts) a b h e = own_place_by t ts a b (own_place ts a b) h e (same t a) (same t b)

-- `stands_above` as arithmetic: of priorities and, among equals, of places
pub data Above (ss : List Slice) (order : List ℕ) (a b : ℕ) : Type 0 where
  higher : priority_at ss b < priority_at ss a → Above ss order a b
  sooner : priority_at ss a ≡ priority_at ss b → place order a < place order b → Above ss order a b

-- the two parts of `stands_above`
abbrev outranks : List Slice → ℕ → ℕ → Bool
outranks ss a b = ltb (priority_at ss b) (priority_at ss a)

abbrev equals : List Slice → ℕ → ℕ → Bool
equals ss a b = eqb (priority_at ss a) (priority_at ss b)

module _ (ss : List Slice) (order : List ℕ) where
  -- from the test to the numbers and back
  above_by : (a b : ℕ) → Either (outranks ss a b) (equals ss a b && earlier order a b) → Above ss order a b
  above_by a b (first e) = higher (ltb-true (priority_at ss b) (priority_at ss a) e)
  above_by a b (second _ e) =
      sooner
      (eqb-true (priority_at ss a) (priority_at ss b) (and_true_left (equals ss a b) (earlier order a b) e))
      (ltb-true (place order a) (place order b)
      (sym (earlier_place order a b) ∙ and_true_right (equals ss a b) (earlier order a b) e))

  pub above_numbers : (a b : ℕ) → stands_above ss order a b ≡ true → Above ss order a b
  unfolding stands_above
  above_numbers a b e = above_by a b (or_true_cases (outranks ss a b) (equals ss a b && earlier order a b) e)

  -- of two of the same priority the earlier stands above
  pub earlier_above : (a b : ℕ) → priority_at ss a ≡ priority_at ss b → earlier order a b ≡ true → stands_above ss order a b ≡ true
  unfolding stands_above
  earlier_above a b p e =
      or_true_right (outranks ss a b) (equals ss a b && earlier order a b) (rw (eq-eqb (priority_at ss a) (priority_at ss b) p) e)

  pub numbers_above : {a b : ℕ} → Above ss order a b → stands_above ss order a b ≡ true
  unfolding stands_above
  numbers_above {a} {b} (higher h) = rw (lt-ltb (priority_at ss b) (priority_at ss a) h)
  numbers_above {a} {b} (sooner p h) = earlier_above a b p (earlier_place order a b ∙ lt-ltb (place order a) (place order b) h)

  -- a strict order
  not_above_itself : {a : ℕ} → Above ss order a a → ⊥
  not_above_itself (higher h) = omega arith
  not_above_itself (sooner e h) = omega arith

  above_above : {a b c : ℕ} → Above ss order a b → Above ss order b c → Above ss order a c
  above_above (higher h) (higher k) = higher (omega arith)
  above_above (higher h) (sooner f k) = higher (omega arith)
  above_above (sooner e h) (higher k) = higher (omega arith)
  above_above (sooner e h) (sooner f k) = sooner (omega arith) (omega arith)

  -- and total: two of the same priority and the same place are one member
  above_or_same : (a b : ℕ) → member a order ≡ true → (a ≡ b → ⊥) → (Above ss order a b → ⊥)
      → Two (outranks ss b a) → Two (ltb (place order b) (place order a)) → Above ss order b a
  above_or_same a b h n f (yes_true p) _ = higher (ltb-true (priority_at ss a) (priority_at ss b) p)
  above_or_same a b h n f (no_false p) (yes_true q) =
      let no_lower : priority_at ss b ≤ priority_at ss a = ltb-false (priority_at ss a) (priority_at ss b) p in
      let no_higher : priority_at ss b < priority_at ss a → ⊥ = λ k. f (higher k) in
      sooner (omega arith) (ltb-true (place order b) (place order a) q)
  above_or_same a b h n f (no_false p) (no_false q) =
      let no_lower : priority_at ss b ≤ priority_at ss a = ltb-false (priority_at ss a) (priority_at ss b) p in
      let no_higher : priority_at ss b < priority_at ss a → ⊥ = λ k. f (higher k) in
      let no-later : place order a ≤ place order b = ltb-false (place order b) (place order a) q in
      let no-sooner : place order a < place order b → ⊥ = λ k. f (sooner (omega arith) k) in
      absurd (n (own_place order a b h (omega arith)))

  -- the laws of `stands_above`
  pub above_trans : (a b c : ℕ)
      → stands_above ss order a b ≡ true → stands_above ss order b c ≡ true → stands_above ss order a c ≡ true
  above_trans a b c p q = numbers_above (above_above (above_numbers a b p) (above_numbers b c q))

  pub above_asym : (a b : ℕ) → stands_above ss order a b ≡ true → stands_above ss order b a ≡ false
  above_asym a b p =
      is_false (stands_above ss order b a) (λ q. not_above_itself (above_above (above_numbers a b p) (above_numbers b a q)))

  pub above_total : (a b : ℕ) → member a order ≡ true → (a ≡ b → ⊥)
      → stands_above ss order a b ≡ false → stands_above ss order b a ≡ true
  above_total a b ha n p =
      numbers_above
      (above_or_same a b ha n (λ x. clash (stands_above ss order a b) (numbers_above x) p)
      (two (outranks ss b a))
      (two (ltb (place order b) (place order a))))

  -- who stands above has no lower priority
  no_lower_by : {a b : ℕ} → Above ss order a b → priority_at ss b ≤ priority_at ss a
  no_lower_by (higher h) = omega arith
  no_lower_by (sooner e h) = omega arith

  no_lower : (a b : ℕ) → stands_above ss order a b ≡ true → priority_at ss b ≤ priority_at ss a
  no_lower a b e = no_lower_by (above_numbers a b e)

-- only the priorities matter
pub above_same : (ss ss' : List Slice) (order : List ℕ) (a b : ℕ)
    → priority_at ss a ≡ priority_at ss' a → priority_at ss b ≡ priority_at ss' b → stands_above ss order a b ≡ stands_above ss' order a b
unfolding stands_above
above_same ss ss' order a b p q = rw (p, q)

-- and who is earlier
above_order : (ss : List Slice) (order order' : List ℕ) (a b : ℕ) → earlier order a b ≡ earlier order' a b
    → stands_above ss order a b ≡ stands_above ss order' a b
unfolding stands_above
above_order ss order order' a b e = rw e

-- what `topmost` finds
pub record Top (ss : List Slice) (takes : ℕ → Bool) (order : List ℕ) (t : ℕ) : Type 0 where
  pub listed : member t order ≡ true
  pub taken : takes t ≡ true
  pub above : (u : ℕ) → member u order ≡ true → takes u ≡ true → (u ≡ t → ⊥) → stands_above ss order t u ≡ true

-- what its answer says
abbrev pub Topmost : List Slice → (ℕ → Bool) → List ℕ → Option ℕ → Type 0
Topmost ss takes order none = (u : ℕ) → member u order ≡ true → takes u ≡ false
Topmost ss takes order (some t) = Top ss takes order t

-- one step of `topmost`: the head against the topmost of the tail
module _ (ss : List Slice) (takes : ℕ → Bool) (t : ℕ) (ts : List ℕ) where
  -- a head that is neither does not matter
  above_there : (a b : ℕ) → (t ≡ a → ⊥) → (t ≡ b → ⊥) → stands_above ss (t ∷ ts) a b ≡ stands_above ss ts a b
  unfolding earlier
  above_there a b na nb = above_order ss (t ∷ ts) ts a b (rw (ne_eqb t a na, ne_eqb t b nb))

  -- so neither does one that is not taken
  not_head : takes t ≡ false → (u : ℕ) → takes u ≡ true → t ≡ u → ⊥
  not_head n u k e = clash (takes u) k (rw e at n)

  head_passed : takes t ≡ false → (o : Option ℕ) → Topmost ss takes ts o → Topmost ss takes (t ∷ ts) o
  head_passed n none x = λ u h. each (λ m. takes m ≡ false) u t ts n (x u) h
  head_passed n (some v) x =
      record {
        listed = member_there v t ts x.listed;
        taken = x.taken;
        above =
            λ u h k d.
            rw (above_there v u (not_head n v x.taken) (not_head n u k))
            (x.above u (member_tail u t ts (not_head n u k) h) k d);
      }

  -- a later one of higher priority stands above the head too
  above_taken : (v : ℕ) → Top ss takes ts v → priority_at ss t < priority_at ss v
      → (u : ℕ) → member u (t ∷ ts) ≡ true → takes u ≡ true → (u ≡ v → ⊥) → Same t u → stands_above ss (t ∷ ts) v u ≡ true
  above_taken v x lt u h k d (equal e _) = numbers_above ss (t ∷ ts) (higher (rw (← e) lt))
  above_taken v x lt u h k d (different n _) =
      rw (above_there v u (λ e. omega (arith, ap (priority_at ss) e)) n) (x.above u (member_tail u t ts n h) k d)

  head_overtaken : (v : ℕ) → Top ss takes ts v → priority_at ss t < priority_at ss v → Top ss takes (t ∷ ts) v
  head_overtaken v x lt =
      record {
        listed = member_there v t ts x.listed;
        taken = x.taken;
        above = λ u h k d. above_taken v x lt u h k d (same t u);
      }

  -- the head stands above whoever has no higher priority
  above_head : (u : ℕ) → priority_at ss u ≤ priority_at ss t → (t ≡ u → ⊥)
      → Same (priority_at ss t) (priority_at ss u) → Above ss (t ∷ ts) t u
  above_head u le n (equal p _) = sooner p (omega (arith, place_here t ts t refl, place_there t ts u n))
  above_head u le n (different p _) = higher (omega arith)

  head_stays : takes t ≡ true
      → ((u : ℕ) → member u ts ≡ true → takes u ≡ true → priority_at ss u ≤ priority_at ss t) → Top ss takes (t ∷ ts) t
  head_stays k low =
      record {
        listed = member_here t t ts refl;
        taken = k;
        above =
            λ u h k' d.
            let n : t ≡ u → ⊥ = λ e. d (sym e) in
            numbers_above ss (t ∷ ts)
            (above_head u (low u (member_tail u t ts n h) k') n (same (priority_at ss t) (priority_at ss u)));
      }

  -- nobody taken has a higher priority than the topmost
  no_higher : (v : ℕ) → Top ss takes ts v
      → (u : ℕ) → member u ts ≡ true → takes u ≡ true → Same u v → priority_at ss u ≤ priority_at ss v
  no_higher v x u h k (equal e _) = omega (arith, ap (priority_at ss) e)
  no_higher v x u h k (different d _) = no_lower ss ts v u (x.above u h k d)

  -- a taken head: upper's choice between it and the topmost of the tail is right
  head_or : takes t ≡ true → (v : ℕ) → Top ss takes ts v → Two (outranks ss v t)
      → Topmost ss takes (t ∷ ts) (upper ss t (some v))
  head_or k v x (yes_true e) = rw e (head_overtaken v x (ltb-true (priority_at ss t) (priority_at ss v) e))
  head_or k v x (no_false e) =
      rw e
      (head_stays k (λ u h k'. omega (arith, no_higher v x u h k' (same u v), ltb-false (priority_at ss t) (priority_at ss v) e)))

  head_taken : takes t ≡ true → (o : Option ℕ) → Topmost ss takes ts o → Topmost ss takes (t ∷ ts) (upper ss t o)
  head_taken k none x = head_stays k (λ u h k'. clash (takes u) k' (x u h))
  head_taken k (some v) x = head_or k v x (two (outranks ss v t))

  -- the step, by whether the head is taken
  topmost_by : (o : Option ℕ) → Topmost ss takes ts o → Two (takes t) → Topmost ss takes (t ∷ ts) (cond (takes t) (upper ss t o) o)
  topmost_by o x (yes_true e) = rw e (head_taken e o x)
  topmost_by o x (no_false e) = rw e (head_passed e o x)

module _ (ss : List Slice) (takes : ℕ → Bool) where
  -- the answer of `topmost` is what it says
  pub topmost_is : (order : List ℕ) → Topmost ss takes order (topmost ss takes order)
  unfolding topmost
  topmost_is [] = λ u h. clash (member u []) h (not_listed u)
  topmost_is (t ∷ ts) = topmost_by ss takes t ts (topmost ss takes ts) (topmost_is ts) (two (takes t))

  pub top_some : (order : List ℕ) (t : ℕ) → topmost ss takes order ≡ some t → Top ss takes order t
  top_some order t e = subst (Topmost ss takes order) e (topmost_is order)

  pub top_none : (order : List ℕ) → topmost ss takes order ≡ none → (u : ℕ) → member u order ≡ true → takes u ≡ false
  top_none order e = subst (Topmost ss takes order) e (topmost_is order)

  -- no two stand above every other
  one_top : (order : List ℕ) (t v : ℕ) → Top ss takes order t → Top ss takes order v → Same v t → v ≡ t
  one_top order t v x y (equal e _) = e
  one_top order t v x y (different d _) =
      let up = above_numbers ss order t v (x.above v y.listed y.taken d) in
      let down = above_numbers ss order v t (y.above t x.listed x.taken (λ e. d (sym e))) in
      absurd (not_above_itself ss order (above_above ss order up down))

  -- so the answer is known from what it has to say
  is_top_by : (order : List ℕ) (t : ℕ) → Top ss takes order t → (o : Option ℕ) → Topmost ss takes order o → o ≡ some t
  is_top_by order t x none y = clash (takes t) x.taken (y t x.listed)
  is_top_by order t x (some v) y = ap some (one_top order t v x y (same v t))

  pub is_top : (order : List ℕ) (t : ℕ) → Top ss takes order t → topmost ss takes order ≡ some t
  is_top order t x = is_top_by order t x (topmost ss takes order) (topmost_is order)

  is_none_by : (order : List ℕ) → ((u : ℕ) → member u order ≡ true → takes u ≡ false)
      → (o : Option ℕ) → Topmost ss takes order o → o ≡ none
  is_none_by order f none y = refl
  is_none_by order f (some v) y = clash (takes v) y.taken (f v y.listed)

  pub is_none : (order : List ℕ) → ((u : ℕ) → member u order ≡ true → takes u ≡ false) → topmost ss takes order ≡ none
  is_none order f = is_none_by order f (topmost ss takes order) (topmost_is order)

-- only the members matter
pub topmost_same : (ss : List Slice) (takes takes' : ℕ → Bool) (order : List ℕ)
    → ((u : ℕ) → member u order ≡ true → takes u ≡ takes' u) → topmost ss takes order ≡ topmost ss takes' order
unfolding topmost
topmost_same ss takes takes' [] f = refl
topmost_same ss takes takes' (t ∷ ts) f =
    rw (f t (member_here t t ts refl), topmost_same ss takes takes' ts (λ u h. f u (member_there u t ts h)))

-- a timeslice goes last
pub member_last : (t : ℕ) (order : List ℕ) → member t (last t order) ≡ true
unfolding last
member_last t [] = member_here t t [] refl
member_last t (x ∷ xs) = member_there t x (last t xs) (member_last t xs)

pub member_last_other : (t u : ℕ) (order : List ℕ) → (u ≡ t → ⊥) → member u (last t order) ≡ member u order
unfolding last member
member_last_other t u [] n = rw (ne_eqb u t n)
member_last_other t u (x ∷ xs) n = ap (λ (r : Bool). eqb u x || r) (member_last_other t u xs n)

pub distinct_last : (t : ℕ) (order : List ℕ) → member t order ≡ false → distinct order ≡ true → distinct (last t order) ≡ true
unfolding last
distinct_last t [] n d = distinct_cons t [] n d
distinct_last t (x ∷ xs) n d =
    distinct_cons x (last t xs)
    (member_last_other t x xs (λ e. clash (member t (x ∷ xs)) (member_here t x xs (sym e)) n) ∙ distinct_head x xs d)
    (distinct_last t xs (member_none t x xs n) (distinct_tail x xs d))

pub length_last : (t : ℕ) (order : List ℕ) → length (last t order) ≡ suc (length order)
unfolding last
length_last t order = omega (arith, length-append order (t ∷ []))

-- the others keep their order
earlier_last : (t : ℕ) (order : List ℕ) (a b : ℕ) → (a ≡ t → ⊥) → (b ≡ t → ⊥) → earlier (last t order) a b ≡ earlier order a b
unfolding last earlier
earlier_last t [] a b na nb = rw (ne_eqb t b (λ e. nb (sym e)), ne_eqb t a (λ e. na (sym e)))
earlier_last t (x ∷ xs) a b na nb = ap (λ (r : Bool). cond (eqb x b) false (cond (eqb x a) true r)) (earlier_last t xs a b na nb)

pub above_last : (ss : List Slice) (t : ℕ) (order : List ℕ) (a b : ℕ) → (a ≡ t → ⊥) → (b ≡ t → ⊥)
    → stands_above ss (last t order) a b ≡ stands_above ss order a b
above_last ss t order a b na nb = above_order ss (last t order) order a b (earlier_last t order a b na nb)

-- a timeslice is taken out: of a list that begins with it the tail is left, of any other the head stays
without_by : (P : List ℕ → Type 0) (t x : ℕ) (xs : List ℕ)
    → (x ≡ t → P xs) → ((x ≡ t → ⊥) → P (x ∷ without t xs)) → Same x t → P (without t (x ∷ xs))
unfolding without
without_by P t x xs f g (equal e p) = rw p (f e)
without_by P t x xs f g (different n p) = rw p (g n)

without_cases : (P : List ℕ → Type 0) (t x : ℕ) (xs : List ℕ)
    → (x ≡ t → P xs) → ((x ≡ t → ⊥) → P (x ∷ without t xs)) → P (without t (x ∷ xs))
without_cases P t x xs f g = without_by P t x xs f g (same x t)

-- the other members stay, and t goes if it stood there once
pub member_without_other : (t u : ℕ) (order : List ℕ) → (u ≡ t → ⊥) → member u (without t order) ≡ member u order
unfolding without member
member_without_other t u [] n = refl
member_without_other t u (x ∷ xs) n =
    without_cases (λ l. member u l ≡ member u (x ∷ xs)) t x xs
    (λ e. rw (ne_eqb u x (λ p. n (p ∙ e))))
    (λ d. ap (λ (r : Bool). eqb u x || r) (member_without_other t u xs n))

pub member_without : (t : ℕ) (order : List ℕ) → distinct order ≡ true → member t (without t order) ≡ false
unfolding without member
member_without t [] d = refl
member_without t (x ∷ xs) d =
    without_cases (λ l. member t l ≡ false) t x xs
    (λ e. rw (← e) (distinct_head x xs d))
    (λ n. rw (ne_eqb t x (λ e. n (sym e))) (member_without t xs (distinct_tail x xs d)))

-- nothing is repeated that was not, one element is gone, and the others keep their order
pub distinct_without : (t : ℕ) (order : List ℕ) → distinct order ≡ true → distinct (without t order) ≡ true
unfolding without
distinct_without t [] d = d
distinct_without t (x ∷ xs) d =
    without_cases (λ l. distinct l ≡ true) t x xs
    (λ e. distinct_tail x xs d)
    (λ n.
    distinct_cons x (without t xs)
    (member_without_other t x xs n ∙ distinct_head x xs d)
    (distinct_without t xs (distinct_tail x xs d)))

pub length_without : (t : ℕ) (order : List ℕ) → member t order ≡ true → suc (length (without t order)) ≡ length order
length_without t [] h = clash (member t []) h (not_listed t)
length_without t (x ∷ xs) h =
    without_cases (λ l. suc (length l) ≡ suc (length xs)) t x xs
    (λ e. refl)
    (λ n. ap suc (length_without t xs (member_tail t x xs n h)))

earlier_without : (t : ℕ) (order : List ℕ) (a b : ℕ) → (a ≡ t → ⊥) → (b ≡ t → ⊥) → earlier (without t order) a b ≡ earlier order a b
unfolding without earlier
earlier_without t [] a b na nb = refl
earlier_without t (x ∷ xs) a b na nb =
    without_cases (λ l. earlier l a b ≡ earlier (x ∷ xs) a b) t x xs
    (λ e. rw (ne_eqb x b (λ p. nb (sym p ∙ e)), ne_eqb x a (λ p. na (sym p ∙ e))))
    (λ n. ap (λ (r : Bool). cond (eqb x b) false (cond (eqb x a) true r)) (earlier_without t xs a b na nb))

pub above_without : (ss : List Slice) (t : ℕ) (order : List ℕ) (a b : ℕ) → (a ≡ t → ⊥) → (b ≡ t → ⊥)
    → stands_above ss (without t order) a b ≡ stands_above ss order a b
above_without ss t order a b na nb = above_order ss (without t order) order a b (earlier_without t order a b na nb)

-- a listed timeslice goes to the back; every member stays one: t at the end, the others where they were
member_back_by : (t u : ℕ) (order : List ℕ) → member t order ≡ true → Same u t → member u (last t (without t order)) ≡ member u order
member_back_by t u order h (equal e _) = rw e (member_last t (without t order) ∙ sym h)
member_back_by t u order h (different n _) = member_last_other t u (without t order) n ∙ member_without_other t u order n

pub member_back : (t u : ℕ) (order : List ℕ) → member t order ≡ true
    → member u (to_back t order) ≡ member u order
unfolding to_back
member_back t u order h = member_back_by t u order h (same u t)

pub distinct_back : (t : ℕ) (order : List ℕ) → distinct order ≡ true → distinct (to_back t order) ≡ true
unfolding to_back
distinct_back t order d = distinct_last t (without t order) (member_without t order d) (distinct_without t order d)

pub length_back : (t : ℕ) (order : List ℕ) → member t order ≡ true → length (to_back t order) ≡ length order
unfolding to_back
length_back t order h = length_last t (without t order) ∙ length_without t order h

pub above_back : (ss : List Slice) (t : ℕ) (order : List ℕ) (a b : ℕ) → (a ≡ t → ⊥) → (b ≡ t → ⊥)
    → stands_above ss (to_back t order) a b ≡ stands_above ss order a b
unfolding to_back
above_back ss t order a b na nb =
    above_last ss t (without t order) a b na nb ∙ above_without ss t order a b na nb

-- whoever is listed besides is earlier than the last
earlier_last_one : (t u : ℕ) (order : List ℕ) → member t order ≡ false → member u order ≡ true → earlier (last t order) u t ≡ true
unfolding last earlier
earlier_last_one t u [] n h = clash (member u []) h (not_listed u)
earlier_last_one t u (x ∷ xs) n h = by (same x u) (λ d. earlier_last_one t u xs (member_none t x xs n) (member_tail u x xs d h))
  where
    other : eqb x t ≡ false
    other = ne_eqb x t (λ e. clash (member t (x ∷ xs)) (member_here t x xs (sym e)) n)

    by : Same x u → ((x ≡ u → ⊥) → earlier (last t xs) u t ≡ true)
        → cond (eqb x t) false (cond (eqb x u) true (earlier (last t xs) u t)) ≡ true
    by (equal _ p) later = rw (other, p)
    by (different d p) later = rw (other, p) (later d)

-- so above the one at the back stands whoever has no lower priority
no_lower_first : (low high : ℕ) → Two (ltb low high) → Same high low → (ltb low high || eqb high low && true) ≡ leb low high
no_lower_first low high (yes_true a) _ = rw a (sym (le-leb low high (omega (arith, ltb-true low high a))))
no_lower_first low high (no_false a) (equal e b) = rw (a, b) (sym (le-leb low high (omega arith)))
no_lower_first low high (no_false a) (different n b) = rw (a, b) (sym (lt-leb low high (omega (arith, ltb-false low high a, n))))

pub above_last_one : (ss : List Slice) (t u : ℕ) (order : List ℕ) → distinct order ≡ true → member u order ≡ true → (u ≡ t → ⊥)
    → stands_above ss (to_back t order) u t ≡ leb (priority_at ss t) (priority_at ss u)
unfolding stands_above to_back
above_last_one ss t u order d h n =
    let first = earlier_last_one t u (without t order) (member_without t order d) (member_without_other t u order n ∙ h) in
    rw first (no_lower_first (priority_at ss t) (priority_at ss u) (two (ltb (priority_at ss t) (priority_at ss u)))
    (same (priority_at ss u) (priority_at ss t)))
