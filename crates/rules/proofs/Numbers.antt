-- With which numbers an event is refused: those that its list of refusals names. One clause for each kind, since the proof computes that
-- kind's list.
use Prim.Native.Nat.{ℕ, ◌≤◌}
use native.Mathlib.Omega.{arith}
use mathlib.Core.Path.{◌≡◌, refl}
use mathlib.Core.Bool.{Bool, true, false, not, ◌&&◌, ◌||◌}
use lib.Dec.{T, leb, eqb}
use borrow.Author.Tests.{leb-true, eqb-true, eqb-false, not-true}
use Rattle.rules.specs.declared.Event.{Event}
use Rattle.rules.specs.declared.Event.TheVariants.{Create, Give, Call, Reply, Block, Wake, Charge, Abort, Refill, Remove, Rank}
use Rattle.rules.specs.State.{Plain}
use Rattle.rules.specs.Refusals.{◌gives◌else◌, refusal}
use Rattle.rules.proofs.Basics.Views.{Either, first, second, or_true_cases, and_true_left, and_true_right}

-- 0 for none, 2 to 13, and 18: neither 1, of a machine that is not sound, nor 14 to 17, of files
abbrev pub event_number : ℕ → Bool
event_number n = not (eqb n 1) && (leb n 13 || eqb n 18)

record Numbered (n : ℕ) : Type 0 where
  is : event_number n ≡ true

goes_on : {rest : ℕ} (b : Bool) (k : ℕ) → T (event_number k) → Numbered rest → Numbered (b gives k else rest)
goes_on true k x later = record { is = by (event_number k) x }
  where
    by : (c : Bool) → T c → c ≡ true
    by true y = refl
    by false y = elim y [ ]
goes_on false k x later = later

none : Numbered 0
none = record { is = refl }

ruleset numbers = (goes_on, none)

numbered : (e : Event) (p : Plain) → Numbered (refusal e p)
numbered (Create n r) p = search numbers depth 7
numbered (Give t n priority quantum) p = search numbers depth 7
numbered (Call server) p = search numbers depth 7
numbered Reply p = search numbers depth 7
numbered Block p = search numbers depth 7
numbered (Wake n) p = search numbers depth 7
numbered (Charge units) p = search numbers depth 7
numbered (Abort n) p = search numbers depth 7
numbered (Refill t) p = search numbers depth 7
numbered (Remove n) p = search numbers depth 7
numbered (Rank t priority) p = search numbers depth 7

pub event_number_lem : (e : Event) (p : Plain) → event_number (refusal e p) ≡ true
event_number_lem e p = (numbered e p).is

-- no such number is 1,
pub not_one : (n : ℕ) → event_number n ≡ true → n ≡ 1 → ⊥
not_one n h = eqb-false n 1 (not-true (eqb n 1) (and_true_left (not (eqb n 1)) (leb n 13 || eqb n 18) h))

-- and none is above 18
pub number_most : (n : ℕ) → event_number n ≡ true → n ≤ 18
number_most n h = by (or_true_cases (leb n 13) (eqb n 18) (and_true_right (not (eqb n 1)) (leb n 13 || eqb n 18) h))
  where
    by : Either (leb n 13) (eqb n 18) → n ≤ 18
    by (first q) = omega (arith, leb-true n 13 q)
    by (second _ q) = omega (arith, eqb-true n 18 q)
