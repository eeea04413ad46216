-- A path along the neighbours is made of its parts, changes where an entry on it changes, and never comes to the same timeslice twice.
use Prim.Native.Nat.{ℕ, ◌<◌}
use mathlib.Core.Path.{◌≡◌, refl, sym, ◌∙◌, ap, subst}
use mathlib.Core.List.{List, [], ◌∷◌, ◌++◌}
use mathlib.Core.Bool.{Bool, true, false, cond}
use native.Mathlib.Omega.{arith}
use lib.ListN.{length, get_or, set, length-set, length-append}
use lib.Seq.{get_or-set_same, get_or-set_other}
use lib.Dec.{ltb}
use borrow.Author.Tests.{lt-ltb}
use Rattle.rules.specs.Tests.{member, distinct}
use Rattle.rules.specs.Timeslices.{without}
use Rattle.rules.proofs.Basics.Views.{clash, is_false, Same, equal, different, same}
use Rattle.rules.proofs.Basics.Members.{not_listed, member_here, member_there, member_none, distinct_cons, each, member_tail}
use Rattle.neighbours.specs.Sides.{Sides, room, neighbour, put}
use Rattle.neighbours.specs.Reading.{turns_from}
use Rattle.neighbours.specs.Forming.{Leads}

-- an entry that is written, and the others
pub put_here : (side : List ℕ) (t u : ℕ) → length side ≡ room → t < room → neighbour (put side t u) t ≡ u
unfolding put neighbour
put_here side t u full low = rw (lt-ltb t room low) (get_or-set_same side t u 0 (omega (arith, full)))

pub put_other : (side : List ℕ) (t u v : ℕ) → (v ≡ t → ⊥) → neighbour (put side t u) v ≡ neighbour side v
unfolding put neighbour
put_other side t u v other = by (ltb t room)
  where
    by : (b : Bool) → cond (ltb v room) (get_or (cond b (set side t u) side) v 0) 255 ≡ cond (ltb v room) (get_or side v 0) 255
    by true = ap (λ (x : ℕ). cond (ltb v room) x 255) (get_or-set_other side t v u 0 other)
    by false = refl

pub length-put : (side : List ℕ) (t u : ℕ) → length (put side t u) ≡ length side
unfolding put
length-put side t u = by (ltb t room)
  where
    by : (b : Bool) → length (cond b (set side t u) side) ≡ length side
    by true = length-set side t u
    by false = refl

module _ (s : Sides) where
  -- a path through t is one to t and one from t
  pub to_it : (a : ℕ) (xs : List ℕ) (t : ℕ) (ys : List ℕ) (b : ℕ) → Leads s a (xs ++ t ∷ ys) b → Leads s a xs t
  to_it a [] t ys b r = (r.0, r.1)
  to_it a (x ∷ xs) t ys b r = (r.0, r.1, to_it x xs t ys b r.2)

  pub from_it : (a : ℕ) (xs : List ℕ) (t : ℕ) (ys : List ℕ) (b : ℕ) → Leads s a (xs ++ t ∷ ys) b → Leads s t ys b
  from_it a [] t ys b r = r.2
  from_it a (x ∷ xs) t ys b r = from_it x xs t ys b r.2

  pub through : (a : ℕ) (xs : List ℕ) (t : ℕ) (ys : List ℕ) (b : ℕ) → Leads s a xs t → Leads s t ys b → Leads s a (xs ++ t ∷ ys) b
  through a [] t ys b r q = (r.0, r.1, q)
  through a (x ∷ xs) t ys b r q = (r.0, r.1, through x xs t ys b r.2 q)

  -- what holds of the start and of all on the way holds of the one before the end
  pub before_end : (P : ℕ → Type 0) (a : ℕ) (xs : List ℕ) (b : ℕ) → Leads s a xs b → P a → ((x : ℕ) → member x xs ≡ true → P x)
      → P (neighbour s.before b)
  before_end P a [] b r start on = subst P (sym r.1) start
  before_end P a (x ∷ xs) b r start on =
      before_end P x xs b r.2 (on x (member_here x x xs refl)) (λ y h. on y (member_there y x xs h))

  -- and what holds of the end and of all on the way of the one after the start
  pub after_start : (P : ℕ → Type 0) (a : ℕ) (xs : List ℕ) (b : ℕ) → Leads s a xs b → P b → ((x : ℕ) → member x xs ≡ true → P x)
      → P (neighbour s.after a)
  after_start P a [] b r end on = subst P (sym r.0) end
  after_start P a (x ∷ xs) b r end on = subst P (sym r.0) (on x (member_here x x xs refl))

  -- the one before the end leads to it
  leads_on : (a : ℕ) (xs : List ℕ) (b : ℕ) → Leads s a xs b → neighbour s.after (neighbour s.before b) ≡ b
  leads_on a [] b r = ap (neighbour s.after) r.1 ∙ r.0
  leads_on a (x ∷ xs) b r = leads_on x xs b r.2

  -- so many steps read the path
  pub read_path : (a : ℕ) (xs : List ℕ) (b : ℕ) → Leads s a xs b → turns_from (length xs) s.after a ≡ xs
  unfolding turns_from
  read_path a [] b r = refl
  read_path a (x ∷ xs) b r = rw r.0 (ap (λ (l : List ℕ). x ∷ l) (read_path x xs b r.2))

  -- two paths from one start to one end that neither passes are the same
  one_path : (a : ℕ) (xs ys : List ℕ) (b : ℕ) → Leads s a xs b → Leads s a ys b → member b xs ≡ false → member b ys ≡ false → xs ≡ ys
  one_path a [] [] b r q m n = refl
  one_path a [] (y ∷ ys) b r q m n = clash (member b (y ∷ ys)) (member_here b y ys (sym r.0 ∙ q.0)) n
  one_path a (x ∷ xs) [] b r q m n = clash (member b (x ∷ xs)) (member_here b x xs (sym q.0 ∙ r.0)) m
  one_path a (x ∷ xs) (y ∷ ys) b r q m n =
      let e : x ≡ y = sym r.0 ∙ q.0 in
      let rest : xs ≡ ys =
      one_path x xs ys b r.2 (subst (λ (z : ℕ). Leads s z ys b) (sym e) q.2) (member_none b x xs m) (member_none b y ys n) in
      λ i. e i ∷ rest i

-- a timeslice of a list: what stands before it and behind it
pub record Stands (t : ℕ) (l : List ℕ) : Type 0 where
  pub front : List ℕ
  pub back : List ℕ
  pub is : l ≡ front ++ t ∷ back
  pub first : member t front ≡ false
  pub rest : without t l ≡ front ++ back

pub stands : (t : ℕ) (l : List ℕ) → member t l ≡ true → Stands t l
unfolding without
stands t [] h = clash (member t []) h (not_listed t)
stands t (x ∷ l) h = by (λ inside. stands t l inside) (same x t)
  where
    by : (member t l ≡ true → Stands t l) → Same x t → Stands t (x ∷ l)
    by further (equal e is) = record { front = []; back = l; is = ap (λ (y : ℕ). y ∷ l) e; first = not_listed t; rest = rw is refl }
    by further (different other isnt) =
        let s = further (member_tail t x l other h) in
        record {
          front = x ∷ s.front;
          back = s.back;
          is = ap (λ (m : List ℕ). x ∷ m) s.is;
          first = is_false (member t (x ∷ s.front))
              (λ h. clash (member t s.front) (member_tail t x s.front other h) s.first);
          rest = rw isnt (ap (λ (m : List ℕ). x ∷ m) s.rest);
        }

module _ (s : Sides) (b : ℕ) where
  -- a path does not come back to its start
  pub not_again : (a : ℕ) (xs : List ℕ) → Leads s a xs b → member b xs ≡ false → member a xs ≡ false
  not_again a xs r end = is_false (member a xs) (λ h. again (stands a xs h))
    where
      again : Stands a xs → ⊥
      again k =
          let path : Leads s a (k.front ++ a ∷ k.back) b = subst (λ (l : List ℕ). Leads s a l b) k.is r in
          let ends : member b (k.front ++ a ∷ k.back) ≡ false = subst (λ (l : List ℕ). member b l ≡ false) k.is end in
          let behind : member b k.back ≡ false = behind_too k.front ends in
          let rest = from_it s a k.front a k.back b path in
          let as_long = ap length (one_path s a (k.front ++ a ∷ k.back) k.back b path rest ends behind) in
          absurd (omega (arith, as_long, length-append k.front (a ∷ k.back)))
        where
          behind_too : (l : List ℕ) → member b (l ++ a ∷ k.back) ≡ false → member b k.back ≡ false
          behind_too [] h = member_none b a k.back h
          behind_too (x ∷ l) h = behind_too l (member_none b x (l ++ a ∷ k.back) h)

  -- so it comes to no timeslice twice
  pub once : (a : ℕ) (xs : List ℕ) → Leads s a xs b → member b xs ≡ false → distinct xs ≡ true
  unfolding distinct
  once a [] r end = refl
  once a (x ∷ xs) r end =
      let rest = member_none b x xs end in
      distinct_cons x xs (not_again x xs r.2 rest) (once x xs r.2 rest)

-- other neighbours, of which these are the same
module _ (s s' : Sides) where
  -- another end, where the one before the old end leads to it
  pub ends_at : (a : ℕ) (xs : List ℕ) (b c : ℕ) → Leads s a xs b → member b xs ≡ false
      → neighbour s'.after (neighbour s.before b) ≡ c → neighbour s'.before c ≡ neighbour s.before b
      → ((x : ℕ) → member x (a ∷ xs) ≡ true → (x ≡ neighbour s.before b → ⊥) → neighbour s'.after x ≡ neighbour s.after x)
      → ((x : ℕ) → member x xs ≡ true → neighbour s'.before x ≡ neighbour s.before x)
      → Leads s' a xs c
  ends_at a [] b c r end to back afters befores = (ap (neighbour s'.after) (sym r.1) ∙ to, back ∙ r.1)
  ends_at a (x ∷ xs) b c r end to back afters befores = (
    afters a (member_here a a (x ∷ xs) refl) not_last ∙ r.0,
    befores x (member_here x x xs refl) ∙ r.1,
    ends_at x xs b c r.2 (member_none b x xs end) to back (λ y h. afters y (member_there y a (x ∷ xs) h))
        (λ y h. befores y (member_there y x xs h)),
  )
    where
      not_last : a ≡ neighbour s.before b → ⊥
      not_last e =
          let this : x ≡ b = sym r.0 ∙ ap (neighbour s.after) e ∙ leads_on s a (x ∷ xs) b r in
          clash (member b (x ∷ xs)) (member_here b x xs (sym this)) end

  -- the same path, where nothing on it changes
  pub kept : (a : ℕ) (xs : List ℕ) (b : ℕ) → Leads s a xs b
      → ((x : ℕ) → member x (a ∷ xs) ≡ true → neighbour s'.after x ≡ neighbour s.after x)
      → ((x : ℕ) → member x xs ≡ true → neighbour s'.before x ≡ neighbour s.before x)
      → neighbour s'.before b ≡ neighbour s.before b
      → Leads s' a xs b
  kept a [] b r afters befores end = (afters a (member_here a a [] refl) ∙ r.0, end ∙ r.1)
  kept a (x ∷ xs) b r afters befores end = (
    afters a (member_here a a (x ∷ xs) refl) ∙ r.0,
    befores x (member_here x x xs refl) ∙ r.1,
    kept x xs b r.2 (λ y h. afters y (member_there y a (x ∷ xs) h)) (λ y h. befores y (member_there y x xs h)) end,
  )

  -- two with the same path are the same along it
  pub same_afters : (a : ℕ) (xs : List ℕ) (b : ℕ) → Leads s a xs b → Leads s' a xs b → (x : ℕ) → member x (a ∷ xs) ≡ true
      → neighbour s.after x ≡ neighbour s'.after x
  same_afters a [] b r q x h =
      each (λ y. neighbour s.after y ≡ neighbour s'.after y) x a [] (r.0 ∙ sym q.0) (λ h. clash (member x []) h (not_listed x)) h
  same_afters a (y ∷ xs) b r q x h =
      each (λ z. neighbour s.after z ≡ neighbour s'.after z) x a (y ∷ xs) (r.0 ∙ sym q.0)
      (λ h. same_afters y xs b r.2 q.2 x h) h

  pub same_befores : (a : ℕ) (xs : List ℕ) (b : ℕ) → Leads s a xs b → Leads s' a xs b → (x : ℕ) → member x xs ≡ true
      → neighbour s.before x ≡ neighbour s'.before x
  same_befores a [] b r q x h = clash (member x []) h (not_listed x)
  same_befores a (y ∷ xs) b r q x h =
      each (λ z. neighbour s.before z ≡ neighbour s'.before z) x y xs (r.1 ∙ sym q.1)
      (λ h. same_befores y xs b r.2 q.2 x h) h

  pub same_last : (a : ℕ) (xs : List ℕ) (b : ℕ) → Leads s a xs b → Leads s' a xs b → neighbour s.before b ≡ neighbour s'.before b
  same_last a [] b r q = r.1 ∙ sym q.1
  same_last a (x ∷ xs) b r q = same_last x xs b r.2 q.2
