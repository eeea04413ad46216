-- The tests of Tests.antt as statements about every element, and what they say of a list's images under a function.
use Prim.Native.Nat.{ℕ, zero, suc, ◌<◌}
use mathlib.Core.Path.{◌≡◌, refl, sym, subst}
use mathlib.Core.List.{List, [], ◌∷◌, map}
use mathlib.Core.Bool.{Bool, true, false, not}
use native.Mathlib.Omega.{arith}
use lib.Dec.{eqb}
use borrow.Author.Tests.{eqb-true, eq-eqb, not-true}
use Rattle.rules.specs.Tests.{member, distinct, all, below}
use Rattle.rules.proofs.Basics.Views.{clash, is_false, Same, equal, different, same, Either, first, second}
use Rattle.rules.proofs.Basics.Views.{and_true_left, and_true_right, and_true_both}
use Rattle.rules.proofs.Basics.Views.{or_true_cases, or_true_left, or_true_right, or_false_right}

-- a member of x ∷ xs is x or a member of xs
pub data Listed (n x : ℕ) (xs : List ℕ) : Type 0 where
  here : n ≡ x → Listed n x xs
  there : member n xs ≡ true → Listed n x xs

listed_by : (n x : ℕ) (xs : List ℕ) → Either (eqb n x) (member n xs) → Listed n x xs
listed_by n x xs (first e) = here (eqb-true n x e)
listed_by n x xs (second _ h) = there h

pub listed : (n x : ℕ) (xs : List ℕ) → member n (x ∷ xs) ≡ true → Listed n x xs
unfolding member
listed n x xs h = listed_by n x xs (or_true_cases (eqb n x) (member n xs) h)

pub not_listed : (n : ℕ) → member n [] ≡ false
unfolding member
not_listed n = refl

pub member_here : (n x : ℕ) (xs : List ℕ) → n ≡ x → member n (x ∷ xs) ≡ true
unfolding member
member_here n x xs e = or_true_left (eqb n x) (member n xs) (eq-eqb n x e)

pub member_there : (n x : ℕ) (xs : List ℕ) → member n xs ≡ true → member n (x ∷ xs) ≡ true
unfolding member
member_there n x xs h = or_true_right (eqb n x) (member n xs) h

pub member_none : (n x : ℕ) (xs : List ℕ) → member n (x ∷ xs) ≡ false → member n xs ≡ false
unfolding member
member_none n x xs h = or_false_right (eqb n x) (member n xs) h

-- the head of a list with no repetition does not stand in its tail
pub distinct_head : (x : ℕ) (xs : List ℕ) → distinct (x ∷ xs) ≡ true → member x xs ≡ false
unfolding distinct
distinct_head x xs d = not-true (member x xs) (and_true_left (not (member x xs)) (distinct xs) d)

pub distinct_tail : (x : ℕ) (xs : List ℕ) → distinct (x ∷ xs) ≡ true → distinct xs ≡ true
unfolding distinct
distinct_tail x xs d = and_true_right (not (member x xs)) (distinct xs) d

pub distinct_cons : (x : ℕ) (xs : List ℕ) → member x xs ≡ false → distinct xs ≡ true → distinct (x ∷ xs) ≡ true
unfolding distinct
distinct_cons x xs n d = rw (n, d)

-- what holds of the head and of each member of the tail holds of every member
each_by : (P : ℕ → Type 0) (n x : ℕ) (xs : List ℕ) → P x → (member n xs ≡ true → P n) → Listed n x xs → P n
each_by P n x xs p r (here e) = subst P (sym e) p
each_by P n x xs p r (there h) = r h

pub each : (P : ℕ → Type 0) (n x : ℕ) (xs : List ℕ) → P x → (member n xs ≡ true → P n) → member n (x ∷ xs) ≡ true → P n
each P n x xs p r h = each_by P n x xs p r (listed n x xs h)

-- a member other than the head stands in the tail
pub member_tail : (n x : ℕ) (xs : List ℕ) → (x ≡ n → ⊥) → member n (x ∷ xs) ≡ true → member n xs ≡ true
member_tail n x xs d h = each (λ m. (x ≡ m → ⊥) → member m xs ≡ true) n x xs (λ c. absurd (c refl)) (λ k c. k) h d

-- `all`
pub all_head : (f : ℕ → Bool) (x : ℕ) (xs : List ℕ) → all f (x ∷ xs) ≡ true → f x ≡ true
unfolding all
all_head f x xs e = and_true_left (f x) (all f xs) e

pub all_tail : (f : ℕ → Bool) (x : ℕ) (xs : List ℕ) → all f (x ∷ xs) ≡ true → all f xs ≡ true
unfolding all
all_tail f x xs e = and_true_right (f x) (all f xs) e

pub all_cons : (f : ℕ → Bool) (x : ℕ) (xs : List ℕ) → f x ≡ true → all f xs ≡ true → all f (x ∷ xs) ≡ true
unfolding all
all_cons f x xs h t = and_true_both (f x) (all f xs) h t

pub all_at : (f : ℕ → Bool) (l : List ℕ) → all f l ≡ true → (n : ℕ) → member n l ≡ true → f n ≡ true
all_at f [] e n h = clash (member n []) h (not_listed n)
all_at f (x ∷ xs) e n h = each (λ m. f m ≡ true) n x xs (all_head f x xs e) (all_at f xs (all_tail f x xs e) n) h

pub all_of : (f : ℕ → Bool) (l : List ℕ) → ((n : ℕ) → member n l ≡ true → f n ≡ true) → all f l ≡ true
unfolding all
all_of f [] g = refl
all_of f (x ∷ xs) g =
    all_cons f x xs (g x (member_here x x xs refl)) (all_of f xs (λ n h. g n (member_there n x xs h)))

-- `below`: a number below k + 1 is k or below k
below_at_by : (f : ℕ → Bool) (k : ℕ) → f k ≡ true → (n : ℕ) → n < suc k → (n < k → f n ≡ true) → Same n k → f n ≡ true
below_at_by f k e n h r (equal p _) = rw p e
below_at_by f k e n h r (different p _) = r (omega arith)

pub below_at : (f : ℕ → Bool) (k : ℕ) → below k f ≡ true → (n : ℕ) → n < k → f n ≡ true
unfolding below
below_at f zero e n h = absurd (omega arith)
below_at f (suc k) e n h =
    below_at_by f k (and_true_right (below k f) (f k) e) n h (below_at f k (and_true_left (below k f) (f k) e) n) (same n k)

pub below_of : (f : ℕ → Bool) (k : ℕ) → ((n : ℕ) → n < k → f n ≡ true) → below k f ≡ true
unfolding below
below_of f zero g = refl
below_of f (suc k) g = and_true_both (below k f) (f k) (below_of f k (λ n h. g n (omega arith))) (g k (omega arith))

-- the image of a member is a member of the images
pub member_map : (f : ℕ → ℕ) (a : ℕ) (l : List ℕ) → member a l ≡ true → member (f a) (map f l) ≡ true
member_map f a [] h = clash (member a []) h (not_listed a)
member_map f a (x ∷ xs) h =
    each (λ m. member (f m) (map f (x ∷ xs)) ≡ true) a x xs
    (member_here (f x) (f x) (map f xs) refl)
    (λ k. member_there (f a) (f x) (map f xs) (member_map f a xs k))
    h

-- and each of them is the image of a member
pub record Image (f : ℕ → ℕ) (l : List ℕ) (n : ℕ) : Type 0 where
  pub of : ℕ
  pub member_of : member of l ≡ true
  pub image : f of ≡ n

image_there : (f : ℕ → ℕ) (x : ℕ) (xs : List ℕ) (n : ℕ) → Image f xs n → Image f (x ∷ xs) n
image_there f x xs n i = record { of = i.of; member_of = member_there i.of x xs i.member_of; image = i.image }

pub image_of : (f : ℕ → ℕ) (l : List ℕ) (n : ℕ) → member n (map f l) ≡ true → Image f l n
image_of f [] n h = clash (member n []) h (not_listed n)
image_of f (x ∷ xs) n h =
    each (λ m. Image f (x ∷ xs) m) n (f x) (map f xs)
    (record { of = x; member_of = member_here x x xs refl; image = refl })
    (λ k. image_there f x xs n (image_of f xs n k))
    h

-- different members have different images
distinct_map_by : (f : ℕ → ℕ) (x : ℕ) (xs : List ℕ) → member (f x) (map f xs) ≡ false → (a b : ℕ) → f a ≡ f b
    → (member a xs ≡ true → member b xs ≡ true → a ≡ b) → Listed a x xs → Listed b x xs → a ≡ b
distinct_map_by f x xs n a b e r (here p) (here q) = cc
distinct_map_by f x xs n a b e r (here p) (there h) = clash (member (f x) (map f xs)) (rw (← p, e) (member_map f b xs h)) n
distinct_map_by f x xs n a b e r (there h) (here q) = clash (member (f x) (map f xs)) (rw (← q, ← e) (member_map f a xs h)) n
distinct_map_by f x xs n a b e r (there h) (there k) = r h k

pub distinct_map : (f : ℕ → ℕ) (l : List ℕ) → distinct (map f l) ≡ true
    → (a b : ℕ) → member a l ≡ true → member b l ≡ true → f a ≡ f b → a ≡ b
distinct_map f [] d a b ha hb e = clash (member a []) ha (not_listed a)
distinct_map f (x ∷ xs) d a b ha hb e =
    distinct_map_by f x xs (distinct_head (f x) (map f xs) d) a b e
    (λ h k. distinct_map f xs (distinct_tail (f x) (map f xs) d) a b h k e)
    (listed a x xs ha) (listed b x xs hb)

-- the image of the head is not the image of a later member
fresh_image : (f : ℕ → ℕ) (x : ℕ) (xs : List ℕ) → member x xs ≡ false
    → ((a b : ℕ) → member a (x ∷ xs) ≡ true → member b (x ∷ xs) ≡ true → f a ≡ f b → a ≡ b)
    → Image f xs (f x) → ⊥
fresh_image f x xs n g i =
    let p : i.of ≡ x = g i.of x (member_there i.of x xs i.member_of) (member_here x x xs refl) i.image in
    clash (member x xs) (rw p at i.member_of) n

pub map-distinct : (f : ℕ → ℕ) (l : List ℕ) → distinct l ≡ true
    → ((a b : ℕ) → member a l ≡ true → member b l ≡ true → f a ≡ f b → a ≡ b) → distinct (map f l) ≡ true
unfolding distinct
map-distinct f [] d g = refl
map-distinct f (x ∷ xs) d g =
    distinct_cons (f x) (map f xs)
    (is_false (member (f x) (map f xs)) (λ h. fresh_image f x xs (distinct_head x xs d) g (image_of f xs (f x) h)))
    (map-distinct f xs (distinct_tail x xs d) (λ a b h k. g a b (member_there a x xs h) (member_there b x xs k)))
