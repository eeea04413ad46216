-- Some event of a list is refused with a number: the test of the definitions and the statement about one event among others say the same,
-- and a list cut in two has such an event if one of its parts does.
use Prim.Native.Nat.{ℕ}
use mathlib.Core.Path.{◌≡◌, refl, sym, ap, ◌∙◌}
use mathlib.Core.List.{List, [], ◌∷◌, ◌++◌, map-append}
use mathlib.Core.Bool.{Bool, true, false, not, ◌&&◌, ◌||◌}
use lib.Dec.{eqb}
use borrow.Author.Tests.{eq-eqb, ne_eqb, not-true}
use Rattle.rules.specs.declared.Event.{Event}
use Rattle.rules.specs.Tests.{member}
use Rattle.rules.specs.State.{State}
use Rattle.rules.specs.Events.{Answered, offer}
use Rattle.rules.specs.Lists.{run, after, numbers_of}
use Rattle.rules.specs.Shorten.{refused_from}
use Rattle.rules.proofs.Basics.Views.{clash, and_true_left, and_true_right, and_true_both, or_true_left, or_true_right}
use Rattle.rules.proofs.Basics.Members.{Listed, here, there, listed, member_here, not_listed}
use Rattle.rules.proofs.Basics.Filters.{member_append}

-- SOME EVENT IS REFUSED WITH THE NUMBER, said of one event among others
pub record Refused (k : ℕ) (es : List Event) (s : State) : Type 0 where
  pub before : List Event
  pub event : Event
  pub behind : List Event
  pub split : es ≡ before ++ (event ∷ behind)
  pub number : (offer event (after before s)).refusal ≡ k
  pub real : k ≡ 0 → ⊥

-- a list cut in two is answered part by part
pub run_append : (xs ys : List Event) (s : State) → run (xs ++ ys) s ≡ run xs s ++ run ys (after xs s)
unfolding run after
run_append [] ys s = refl
run_append (x ∷ xs) ys s = ap (λ (l : List Answered). offer x s ∷ l) (run_append xs ys (offer x s).state)

pub after_append : (xs ys : List Event) (s : State) → after (xs ++ ys) s ≡ after ys (after xs s)
unfolding after
after_append [] ys s = refl
after_append (x ∷ xs) ys s = after_append xs ys (offer x s).state

and_or : (a b c : Bool) → (a && (b || c)) ≡ ((a && b) || (a && c))
and_or true b c = refl
and_or false b c = refl

module _ (k : ℕ) where
  -- some event of a list cut in two is refused with the number if one of a part is
  pub refused_append : (xs ys : List Event) (s : State)
      → refused_from k (xs ++ ys) s ≡ (refused_from k xs s || refused_from k ys (after xs s))
  unfolding refused_from
  refused_append xs ys s =
      let number : Answered → ℕ = λ a. a.refusal in
      let there = after xs s in
      ap (λ (l : List Answered). not (eqb k 0) && member k (numbers_of l)) (run_append xs ys s)
      ∙ ap (λ (l : List ℕ). not (eqb k 0) && member k l) (map-append number (run xs s) (run ys there))
      ∙ ap (λ (b : Bool). not (eqb k 0) && b) (member_append k (numbers_of (run xs s)) (numbers_of (run ys there)))
      ∙ and_or (not (eqb k 0)) (member k (numbers_of (run xs s))) (member k (numbers_of (run ys there)))

  pub refused_front : (xs ys : List Event) (s : State) → refused_from k xs s ≡ true → refused_from k (xs ++ ys) s ≡ true
  refused_front xs ys s h = refused_append xs ys s ∙ or_true_left (refused_from k xs s) (refused_from k ys (after xs s)) h

  -- the first event, or one of the others
  pub refused_cons : (e : Event) (es : List Event) (s : State)
      → refused_from k (e ∷ es) s ≡ ((not (eqb k 0) && eqb k (offer e s).refusal) || refused_from k es (offer e s).state)
  unfolding refused_from run member
  refused_cons e es s = and_or (not (eqb k 0)) (eqb k (offer e s).refusal) (member k (numbers_of (run es (offer e s).state)))

  pub none_refused : (s : State) → refused_from k [] s ≡ false
  unfolding refused_from run member
  none_refused s = by (not (eqb k 0))
    where
      by : (b : Bool) → (b && false) ≡ false
      by true = refl
      by false = refl

  -- the test finds such an event,
  refused_here : {e : Event} {es : List Event} {s : State} → (k ≡ 0 → ⊥) → k ≡ (offer e s).refusal → Refused k (e ∷ es) s
  unfolding after
  refused_here {e} {es} {s} real e-is = record { before = []; event = e; behind = es; split = refl; number = sym e-is; real = real }

  refused_later : {e : Event} {es : List Event} {s : State} → Refused k es (offer e s).state → Refused k (e ∷ es) s
  unfolding after
  refused_later {e} {es} {s} r =
      record {
        before = e ∷ r.before;
        event = r.event;
        behind = r.behind;
        split = ap (λ (l : List Event). e ∷ l) r.split;
        number = r.number;
        real = r.real;
      }

  listed_refused : (k ≡ 0 → ⊥) → (es : List Event) (s : State) → member k (numbers_of (run es s)) ≡ true → Refused k es s
  unfolding run
  listed_refused real [] s h = clash (member k []) h (not_listed k)
  listed_refused real (e ∷ es) s h = by (listed k (offer e s).refusal (numbers_of (run es (offer e s).state)) h)
      (listed_refused real es (offer e s).state)
    where
      by : Listed k (offer e s).refusal (numbers_of (run es (offer e s).state))
          → (member k (numbers_of (run es (offer e s).state)) ≡ true → Refused k es (offer e s).state) → Refused k (e ∷ es) s
      by (here q) later = refused_here real q
      by (there q) later = refused_later (later q)

  pub refused_of : (es : List Event) (s : State) → refused_from k es s ≡ true → Refused k es s
  unfolding refused_from
  refused_of es s h =
      listed_refused (λ z. clash (eqb k 0) (eq-eqb k 0 z) (not-true (eqb k 0) (and_true_left (not (eqb k 0)) _ h))) es s
      (and_true_right (not (eqb k 0)) (member k (numbers_of (run es s))) h)

  -- and only such
  pub refused_at : (xs : List Event) (e : Event) (ys : List Event) (s : State) → (k ≡ 0 → ⊥) → (offer e (after xs s)).refusal ≡ k
      → refused_from k (xs ++ (e ∷ ys)) s ≡ true
  unfolding refused_from run
  refused_at xs e ys s real q =
      refused_append xs (e ∷ ys) s
      ∙ or_true_right (refused_from k xs s) (refused_from k (e ∷ ys) (after xs s))
      (and_true_both (not (eqb k 0)) _ (ap not (ne_eqb k 0 real)) (member_here k (offer e (after xs s)).refusal _ (sym q)))

  pub of_refused : {es : List Event} {s : State} → Refused k es s → refused_from k es s ≡ true
  of_refused {es} {s} r =
      ap (λ (l : List Event). refused_from k l s) r.split ∙ refused_at r.before r.event r.behind s r.real r.number
