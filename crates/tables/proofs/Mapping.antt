-- A map over a whole table. In place: the entries passed are changed, and the rest is to be. By a closure: where each call gives h of an
-- entry and leaves the closure as it was, the table becomes `map h`.
use Prim.Native.Nat.{ℕ, zero, suc, ◌+◌, ◌≤◌, ◌<◌}
use mathlib.Core.Path.{◌≡◌, refl, sym, ◌∙◌, ap, subst}
use mathlib.Core.List.{List, [], ◌∷◌, ◌++◌, map, append-nil}
use native.Mathlib.Omega.{arith}
use native.Mathlib.Numerals.{add-one}
use lib.ListN.{length, get_or, get_or-map, set, take, drop, length-set, drop_of_length-le}
use lib.Seq.{drop-cons, take_all, append_snoc, take-suc-set, drop-set-lt}
use denote.Param.Members.{Mut, Called}
use Rattle.std.specs.Array.{MapsFrom, IsMapOf}
use Rattle.std.proofs.lemmas.List.{ext_get_or, length-map}

-- in place
module _ {A : Type 0} (f : A → A) (free : A) (first : List A) where
  -- entry k is reached
  pub record Mapping (l : List A) (k : ℕ) : Type 0 where
    pub full : length l ≡ 128
    pub whole : take k l ++ map f (drop k l) ≡ map f first

  pub begin : length first ≡ 128 → Mapping first 0
  begin full = record { full = full; whole = refl }

  pub next : (l : List A) (k : ℕ) (a : A) → Mapping l k → k < 128 → a ≡ f (get_or l k free) → Mapping (set l k a) (k + 1)
  next l k a m short e =
      let inside : k < length l = omega (arith, m.full) in
      let rest = map f (drop (suc k) l) in
      let front : take (suc k) (set l k a) ++ map f (drop (suc k) (set l k a)) ≡ take k l ++ (a ∷ rest) =
      rw (take-suc-set l k a inside, drop-set-lt (suc k) l k a (omega arith)) (append_snoc (take k l) a rest) in
      let at : map f (drop k l) ≡ f (get_or l k free) ∷ rest = ap (map f) (drop-cons l k free inside) in
      record {
        full = length-set l k a ∙ m.full;
        whole =
            rw (add-one k)
            (front ∙ ap (λ (x : A). take k l ++ (x ∷ rest)) e ∙ ap (λ (r : List A). take k l ++ r) (sym at) ∙ m.whole);
      }

  pub done : (l : List A) (k : ℕ) → Mapping l k → 128 ≤ k → l ≡ map f first
  done l k m past =
      let none : drop k l ≡ [] = drop_of_length-le l {i = k} (omega (arith, m.full)) in
      let all : take k l ≡ l = take_all k l (omega (arith, m.full)) in
      sym all ∙ sym (append-nil (take k l)) ∙ ap (λ (r : List A). take k l ++ map f r) (sym none) ∙ m.whole

-- by a closure
module _ {F A B : Type 0} (g : Mut F (A × Unit {0}) B) (h : A → B) (f : F)
    (one : (x : A) (y : B) (q : F) → Called g f (x, tt) y q → (q ≡ f) × (y ≡ h x)) where
  entry : (xs : List A) (ys : List B) (i n : ℕ) → MapsFrom g f xs ys i n → (k : ℕ) → k < n → (d : A) (e : B)
      → get_or ys (i + k) e ≡ h (get_or xs (i + k) d)
  entry xs ys i zero m k short d e = absurd (omega arith)
  entry xs ys i (suc n) m zero short d e =
      let here : i + 0 ≡ i = omega arith in
      rw here (m.4.1 e ∙ (one m.1 m.2 m.0 m.5).1 ∙ ap h (sym (m.3.1 d)))
  entry xs ys i (suc n) m (suc k) short d e =
      let later : i + suc k ≡ i + 1 + k = omega arith in
      let rest : MapsFrom g f xs ys (i + 1) n = subst (λ (q : F). MapsFrom g q xs ys (i + 1) n) (one m.1 m.2 m.0 m.5).0 m.6 in
      rw later (entry xs ys (i + 1) n rest k (omega arith) d e)

  pub mapped : (free : A) (xs : List A) (ys : List B) (n : ℕ) → IsMapOf g f xs ys n → length xs ≡ n → ys ≡ map h xs
  mapped free xs ys n m full =
      ext_get_or (h free) ys (map h xs) (m.long ∙ sym full ∙ sym (length-map xs h))
      (λ k short.
      let from_0 : 0 + k ≡ k = omega arith in
      (rw from_0 at (entry xs ys 0 n m.each k (omega (arith, m.long)) free (h free))) ∙ sym (get_or-map h xs k free))
