-- One pass. It either leaves out some event, and then fewer are left; or none, and then each of its tries failed. What it leaves is part of
-- its list, and still has such a refusal, because each try says so.
use Prim.Native.Nat.{ℕ, ◌+◌, ◌≤◌, ◌<◌}
use native.Mathlib.Omega.{arith}
use mathlib.Core.Path.{◌≡◌, refl, sym, ap, ◌∙◌, subst}
use mathlib.Core.List.{List, [], ◌∷◌, ◌++◌, reverse, reverse_aux, reverse_aux-eq, reverse_aux-append, reverse-append, reverse-reverse}
use mathlib.Core.Bool.{true, false}
use lib.ListN.{length, length-reverse}
use Rattle.rules.specs.declared.Event.{Event}
use Rattle.rules.specs.State.{empty}
use Rattle.rules.specs.Shorten.{refused_in, tried, pass}
use Rattle.rules.proofs.Basics.Views.{Two, yes_true, no_false, two}
use Rattle.rules.proofs.Shortening.Refusing.{refused_front}

-- SOME OF THE EVENTS, in their old order
pub data Part : List Event → List Event → Type 0 where
  nothing : Part [] []
  kept : {e : Event} {xs ys : List Event} → Part xs ys → Part (e ∷ xs) (e ∷ ys)
  left_out : {e : Event} {xs ys : List Event} → Part xs ys → Part xs (e ∷ ys)

pub part_all : (xs : List Event) → Part xs xs
part_all [] = nothing
part_all (x ∷ xs) = kept (part_all xs)

pub part_then : {xs ys zs : List Event} → Part xs ys → Part ys zs → Part xs zs
part_then p nothing = p
part_then (kept p) (kept q) = kept (part_then p q)
part_then (left_out p) (kept q) = left_out (part_then p q)
part_then p (left_out q) = left_out (part_then p q)

-- behind the same events
part_behind : (before : List Event) {xs ys : List Event} → Part xs ys → Part (reverse_aux before xs) (reverse_aux before ys)
part_behind [] p = p
part_behind (e ∷ before) p = part_behind before (kept p)

-- a list turned around twice, and where an event of it stands then
there_and_back : (xs ys : List Event) → reverse_aux (reverse xs) ys ≡ xs ++ ys
there_and_back xs ys = reverse_aux-eq (reverse xs) ys ∙ ap (λ (l : List Event). l ++ ys) (reverse-reverse xs)

reverse_split : (xs : List Event) (e : Event) (ys : List Event) → reverse (xs ++ (e ∷ ys)) ≡ reverse ys ++ (e ∷ reverse xs)
reverse_split xs e ys = reverse_aux-append xs (e ∷ ys) [] ∙ reverse_aux-eq ys (e ∷ reverse xs)

without : (xs ys : List Event) → xs ++ ys ≡ reverse_aux (reverse xs) (reverse (reverse ys))
without xs ys = sym (there_and_back xs (reverse (reverse ys)) ∙ ap (λ (l : List Event). xs ++ l) (reverse-reverse ys))

module _ (k : ℕ) where
  -- ONE TRY, by what it says
  by_try : (P : List Event → Type 0) (e : Event) (before stay : List Event)
      → (refused_in k (reverse_aux before stay) ≡ true → P (tried k before stay))
      → (refused_in k (reverse_aux before stay) ≡ false → P (tried k before (e ∷ stay))) → P (tried k (e ∷ before) stay)
  unfolding tried
  by_try P e before stay out stays = by (two (refused_in k (reverse_aux before stay)))
    where
      by : Two (refused_in k (reverse_aux before stay)) → P (tried k (e ∷ before) stay)
      by (yes_true t) = rw t (out t)
      by (no_false t) = rw t (stays t)

  -- ONE PASS. What is left of it still has such a refusal, and is part of its list
  tried_refused : (before stay : List Event) → refused_in k (reverse_aux before stay) ≡ true → refused_in k (tried k before stay) ≡ true
  unfolding tried
  tried_refused [] stay h = h
  tried_refused (e ∷ before) stay h =
      by_try (λ l. refused_in k l ≡ true) e before stay (tried_refused before stay) (λ _. tried_refused before (e ∷ stay) h)

  tried_part : (before stay : List Event) → Part (tried k before stay) (reverse_aux before stay)
  unfolding tried
  tried_part [] stay = part_all stay
  tried_part (e ∷ before) stay =
      by_try (λ l. Part l (reverse_aux before (e ∷ stay))) e before stay
      (λ _. part_then (tried_part before stay) (part_behind before (left_out (part_all stay))))
      (λ _. tried_part before (e ∷ stay))

  -- each of the events tried is needed: without it no event is refused with the number
  abbrev Needed : List Event → List Event → Type 0
  Needed before stay = (later : List Event) (e : Event) (earlier : List Event) → before ≡ later ++ (e ∷ earlier)
      → refused_in k (reverse_aux earlier (reverse_aux later stay)) ≡ false

  -- a pass leaves out none or some
  data Outcome (before stay : List Event) : Type 0 where
    none_out : tried k before stay ≡ reverse_aux before stay → Needed before stay → Outcome before stay
    some_out : length (tried k before stay) < length before + length stay → Outcome before stay

  tried_most : (before stay : List Event) → length (tried k before stay) ≤ length before + length stay
  unfolding tried
  tried_most [] stay = omega arith
  tried_most (e ∷ before) stay =
      by_try (λ l. length l ≤ length (e ∷ before) + length stay) e before stay
      (λ _. omega (arith, tried_most before stay)) (λ _. omega (arith, tried_most before (e ∷ stay)))

  needed_none : (stay : List Event) → Needed [] stay
  needed_none stay [] e earlier q = let z : ◌≡◌ {A = ℕ} 0 1 = cc in absurd (omega arith)
  needed_none stay (x ∷ later) e earlier q = let z : ◌≡◌ {A = ℕ} 0 1 = cc in absurd (omega arith)

  needed_more : (x : Event) (before stay : List Event) → refused_in k (reverse_aux before stay) ≡ false → Needed before (x ∷ stay)
      → Needed (x ∷ before) stay
  needed_more x before stay t n [] e earlier q =
      let same : before ≡ earlier = cc in
      ap (λ (l : List Event). refused_in k (reverse_aux l stay)) (sym same) ∙ t
  needed_more x before stay t n (y ∷ later) e earlier q =
      let same : x ≡ y = cc in
      let rest : before ≡ later ++ (e ∷ earlier) = cc in
      ap (λ (z : Event). refused_in k (reverse_aux earlier (reverse_aux later (z ∷ stay)))) (sym same) ∙ n later e earlier rest

  outcome : (before stay : List Event) → Outcome before stay
  unfolding tried
  outcome [] stay = none_out refl (needed_none stay)
  outcome (e ∷ before) stay = by (two (refused_in k (reverse_aux before stay))) (outcome before (e ∷ stay))
    where
      by : Two (refused_in k (reverse_aux before stay)) → Outcome before (e ∷ stay) → Outcome (e ∷ before) stay
      by (yes_true t) in-it = some_out (rw t (omega (arith, tried_most before stay)))
      by (no_false t) (none_out q n) = none_out (rw t q) (needed_more e before stay t n)
      by (no_false t) (some_out q) = some_out (rw t (omega (arith, q)))

  pub pass_part : (es : List Event) → Part (pass k es) es
  pass_part es = subst (λ (l : List Event). Part (pass k es) l) (reverse-reverse es) (tried_part (reverse es) [])

  pub pass_refused : (es : List Event) → refused_in k es ≡ true → refused_in k (pass k es) ≡ true
  pass_refused es h = tried_refused (reverse es) [] (ap (refused_in k) (reverse-reverse es) ∙ h)

  -- "Taking out any single event of it must leave a list where none is."
  abbrev pub Minimal : List Event → Type 0
  Minimal es = (before : List Event) (e : Event) (behind : List Event) → es ≡ before ++ (e ∷ behind)
      → refused_in k (before ++ behind) ≡ false

  -- a pass leaves out none, and then its list is as asked; or it leaves out some
  pub data Passed (es : List Event) : Type 0 where
    whole : pass k es ≡ es → Minimal es → Passed es
    fewer : length (pass k es) < length es → Passed es

  pub passed : (es : List Event) → Passed es
  passed es = by (outcome (reverse es) [])
    where
      by : Outcome (reverse es) [] → Passed es
      by (none_out q n) =
          whole (q ∙ reverse-reverse es) (λ before e behind split.
          ap (refused_in k) (without before behind)
          ∙ n (reverse behind) e (reverse before) (ap reverse split ∙ reverse_split before e behind))
      by (some_out q) = fewer (omega (arith, q, length-reverse es))

  tried_out : (e : Event) (before stay : List Event) → refused_in k (reverse_aux before stay) ≡ true
      → tried k (e ∷ before) stay ≡ tried k before stay
  unfolding tried
  tried_out e before stay t = rw t

  -- what comes after a refusal asked for is left out
  tried_cut : (more before : List Event) → refused_in k (reverse before) ≡ true → tried k (more ++ before) [] ≡ tried k before []
  tried_cut [] before h = refl
  tried_cut (e ∷ more) before h =
      let front = reverse_aux-append more before [] ∙ reverse_aux-eq before (reverse more) in
      let still = ap (refused_in k) front ∙ refused_front k (reverse before) (reverse more) empty h in
      tried_out e (more ++ before) [] still ∙ tried_cut more before h

  pub pass_cut : (xs ys : List Event) → refused_in k xs ≡ true → pass k (xs ++ ys) ≡ pass k xs
  pass_cut xs ys h =
      ap (λ (l : List Event). tried k l []) (reverse-append xs ys)
      ∙ tried_cut (reverse ys) (reverse xs) (ap (refused_in k) (reverse-reverse xs) ∙ h)
