-- What a try asks of the whole list is asked of the events that stay alone, from the machine before them: of those before them none is
-- refused with the number. So a pass may go half by half, and its first try, of the refused event itself, need not be made.
use Prim.Native.Nat.{ℕ}
use mathlib.Core.Path.{◌≡◌, refl, sym, ap, ◌∙◌}
use mathlib.Core.List.{List, [], ◌∷◌, ◌++◌}
use mathlib.Core.List.{reverse, reverse_aux, reverse-cons, reverse_aux-eq, reverse_aux-append, reverse-append, reverse-reverse}
use mathlib.Core.Bool.{Bool, false, cond, ◌||◌}
use Rattle.rules.specs.declared.Event.{Event}
use Rattle.rules.specs.State.{State, empty}
use Rattle.rules.specs.Lists.{after}
use Rattle.rules.specs.Shorten.{refused_from, refused_in, tried, pass}
use Rattle.rules.proofs.Basics.Views.{or_false_left}
use Rattle.rules.proofs.Shortening.Refusing.{after_append, refused_append}
use Rattle.shorten_sheet.specs.Promises.{tried_from}

reverse_snoc : (xs : List Event) (e : Event) → reverse (xs ++ (e ∷ [])) ≡ e ∷ reverse xs
reverse_snoc xs e = reverse_aux-append xs (e ∷ []) []

module _ (k : ℕ) where
  -- where none of all is refused, none of the first is
  quiet_front : (xs ys : List Event) → refused_in k (xs ++ ys) ≡ false → refused_in k xs ≡ false
  quiet_front xs ys h =
      or_false_left (refused_in k xs) (refused_from k ys (after xs empty)) (sym (refused_append k xs ys empty) ∙ h)

  rest_only : (xs ys : List Event) → refused_in k xs ≡ false → refused_in k (xs ++ ys) ≡ refused_from k ys (after xs empty)
  rest_only xs ys h = refused_append k xs ys empty ∙ ap (λ (b : Bool). b || refused_from k ys (after xs empty)) h

  -- one try
  asked_of_stay : (before stay : List Event) → refused_in k (reverse before) ≡ false
      → refused_in k (reverse_aux before stay) ≡ refused_from k stay (after (reverse before) empty)
  asked_of_stay before stay quiet = ap (refused_in k) (reverse_aux-eq before stay) ∙ rest_only (reverse before) stay quiet

  -- so all of them may be tried from the machine before them
  pub from_start : (before stay : List Event) → refused_in k (reverse before) ≡ false → tried k before stay ≡ tried_from k empty before stay
  unfolding tried tried_from
  from_start [] stay quiet = refl
  from_start (e ∷ before) stay quiet =
      let quieter = quiet_front (reverse before) (e ∷ []) (ap (refused_in k) (sym (reverse-cons e before)) ∙ quiet) in
      ap (λ (b : Bool). tried k before (cond b stay (e ∷ stay))) (asked_of_stay before stay quieter)
      ∙ from_start before (cond (refused_from k stay (after (reverse before) empty)) stay (e ∷ stay)) quieter

  -- TWO HALVES: those of the second are tried first, from the machine before them
  second_first : (s : State) (xs before stay : List Event)
      → tried_from k s (before ++ reverse xs) stay ≡ tried_from k s (reverse xs) (tried_from k (after xs s) before stay)
  unfolding tried_from
  second_first s xs [] stay = refl
  second_first s xs (e ∷ before) stay =
      let row : reverse (before ++ reverse xs) ≡ xs ++ reverse before =
      reverse-append before (reverse xs) ∙ ap (λ (l : List Event). l ++ reverse before) (reverse-reverse xs) in
      let there = ap (λ (l : List Event). after l s) row ∙ after_append xs (reverse before) s in
      ap (λ (z : State). tried_from k s (before ++ reverse xs) (cond (refused_from k stay z) stay (e ∷ stay))) there
      ∙ second_first s xs before (cond (refused_from k stay (after (reverse before) (after xs s))) stay (e ∷ stay))

  pub halves_tried : (s : State) (xs ys stay : List Event)
      → tried_from k s (reverse (xs ++ ys)) stay ≡ tried_from k s (reverse xs) (tried_from k (after xs s) (reverse ys) stay)
  halves_tried s xs ys stay =
      ap (λ (l : List Event). tried_from k s l stay) (reverse-append xs ys) ∙ second_first s xs (reverse ys) stay

  -- a pass over events of which only the last is refused with the number: it stays
  pub refused_stays : (xs : List Event) (e : Event) → refused_in k xs ≡ false → pass k (xs ++ (e ∷ [])) ≡ tried k (reverse xs) (e ∷ [])
  unfolding tried
  refused_stays xs e quiet =
      ap (λ (l : List Event). tried k l []) (reverse_snoc xs e)
      ∙ ap (λ (b : Bool). tried k (reverse xs) (cond b [] (e ∷ []))) (ap (refused_in k) (reverse-reverse xs) ∙ quiet)
