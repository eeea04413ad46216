-- Pass after pass: each but the last leaves fewer events, so there is a last one, and what is so of every pass is so of all.
use Prim.Native.Nat.{ℕ, zero, suc, ◌≤◌, ◌<◌}
use native.Mathlib.Omega.{arith}
use mathlib.Core.Path.{◌≡◌, refl, sym, ap, ◌∙◌, subst}
use mathlib.Core.List.{List, ◌++◌}
use mathlib.Core.Bool.{true}
use lib.ListN.{length}
use borrow.Author.Tests.{eq-eqb, ne_eqb}
use Rattle.rules.specs.declared.Event.{Event}
use Rattle.rules.specs.Shorten.{refused_in, pass, passes, shortened}
use Rattle.rules.proofs.Shortening.Passing.{Part, part_all, part_then, pass_part, pass_refused, pass_cut}
use Rattle.rules.proofs.Shortening.Passing.{Minimal, Passed, whole, fewer, passed}

module _ (k : ℕ) where
  -- PASSES. A pass that leaves out none is the last; one that leaves out some is followed by the others
  pub last_pass : (n : ℕ) (es : List Event) → pass k es ≡ es → passes k n es ≡ es
  unfolding passes
  last_pass zero es q = refl
  last_pass (suc n) es q = rw (eq-eqb (length (pass k es)) (length es) (ap length q))

  pass_first : (n : ℕ) (es : List Event) → length (pass k es) < length es → passes k (suc n) es ≡ passes k n (pass k es)
  unfolding passes
  pass_first n es h =
      let differ : length (pass k es) ≡ length es → ⊥ = omega arith in
      rw (ne_eqb (length (pass k es)) (length es) differ)

  -- as many passes as events are enough, and more change nothing
  abbrev Enough : ℕ → Type 0
  Enough n = (m : ℕ) (es : List Event) → length es ≤ n → length es ≤ m → passes k n es ≡ passes k m es

  enough : (n : ℕ) → Enough n
  enough zero m es h g = by (passed k es)
    where
      by : Passed k es → passes k zero es ≡ passes k m es
      by (whole q _) = last_pass zero es q ∙ sym (last_pass m es q)
      by (fewer q) = absurd (omega arith)
  enough (suc n) m es h g = by m g (passed k es) (enough n)
    where
      by : (m : ℕ) → length es ≤ m → Passed k es → Enough n → passes k (suc n) es ≡ passes k m es
      by m g (whole q _) ih = last_pass (suc n) es q ∙ sym (last_pass m es q)
      by zero g (fewer q) ih = absurd (omega arith)
      by (suc m) g (fewer q) ih = pass_first n es q ∙ ih m (pass k es) (omega arith) (omega arith) ∙ sym (pass_first m es q)

  -- so it does not matter whether a first pass has been made
  pub again : (es : List Event) → shortened k es ≡ shortened k (pass k es)
  again es = by (length es) refl (passed k es)
    where
      by : (n : ℕ) → length es ≡ n → Passed k es → shortened k es ≡ shortened k (pass k es)
      by n h (whole q _) = ap (shortened k) (sym q)
      by zero h (fewer q) = absurd (omega arith)
      by (suc n) h (fewer q) =
          ap (λ (m : ℕ). passes k m es) h ∙ pass_first n es q ∙ enough n (length (pass k es)) (pass k es) (omega arith) (omega arith)

  -- THE PROCEDURE, without a number of passes: "over and over until a whole pass leaves out none"
  pub data Repeats : List Event → List Event → Type 0 where
    ends : {es : List Event} → pass k es ≡ es → Repeats es es
    goes_on : {es xs : List Event} → length (pass k es) < length es → Repeats (pass k es) xs → Repeats es xs

  repeats_in : (n : ℕ) (es : List Event) → length es ≤ n → Repeats es (passes k n es)
  repeats_in zero es h = by (passed k es)
    where
      by : Passed k es → Repeats es (passes k zero es)
      by (whole q _) = subst (λ (l : List Event). Repeats es l) (sym (last_pass zero es q)) (ends q)
      by (fewer q) = absurd (omega arith)
  repeats_in (suc n) es h = by (passed k es) (repeats_in n (pass k es))
    where
      by : Passed k es → (length (pass k es) ≤ n → Repeats (pass k es) (passes k n (pass k es))) → Repeats es (passes k (suc n) es)
      by (whole q _) ih = subst (λ (l : List Event). Repeats es l) (sym (last_pass (suc n) es q)) (ends q)
      by (fewer q) ih = subst (λ (l : List Event). Repeats es l) (sym (pass_first n es q)) (goes_on q (ih (omega arith)))

  -- it ends, and at one list only
  pub repeats : (es : List Event) → Repeats es (shortened k es)
  repeats es = repeats_in (length es) es (omega arith)

  pub only_one : {es xs : List Event} → Repeats es xs → xs ≡ shortened k es
  only_one (ends {es = es} q) = sym (last_pass (length es) es q)
  only_one (goes_on {es = es} q r) = only_one r ∙ sym (again es)

  -- what is so of every pass is so of all
  pub repeats_part : {es xs : List Event} → Repeats es xs → Part xs es
  repeats_part (ends {es = es} q) = part_all es
  repeats_part (goes_on {es = es} q r) = part_then (repeats_part r) (pass_part k es)

  pub repeats_refused : {es xs : List Event} → Repeats es xs → refused_in k es ≡ true → refused_in k xs ≡ true
  repeats_refused (ends q) h = h
  repeats_refused (goes_on {es = es} q r) h = repeats_refused r (pass_refused k es h)

  whole_minimal : (es : List Event) → pass k es ≡ es → Minimal k es
  whole_minimal es q = by (passed k es)
    where
      by : Passed k es → Minimal k es
      by (whole _ m) = m
      by (fewer h) = absurd (omega (arith, h, ap length q))

  pub repeats_minimal : {es xs : List Event} → Repeats es xs → Minimal k xs
  repeats_minimal (ends {es = es} q) = whole_minimal es q
  repeats_minimal (goes_on q r) = repeats_minimal r

  -- WHAT COMES AFTER A REFUSAL ASKED FOR does not matter
  pub cut_off : (xs ys : List Event) → refused_in k xs ≡ true → shortened k (xs ++ ys) ≡ shortened k xs
  cut_off xs ys h = again (xs ++ ys) ∙ ap (shortened k) (pass_cut k xs ys h) ∙ sym (again xs)
