-- Each shape of operands by the number of bytes, then by reading them.
use Prim.Native.Nat.{ℕ}
use mathlib.Core.Path.{◌≡◌, refl}
use mathlib.Core.List.{List, [], ◌∷◌}
use mathlib.Core.Bool.{cond}
use mathlib.Core.Option.{Option, none, some}
use native.Mathlib.Omega.{arith}
use lib.ListN.{length, get_or}
use lib.Dec.{eqb}
use borrow.Author.Tests.{ne_eqb}
use Rattle.rules.specs.declared.Event.{Event}
use Rattle.rules.specs.declared.Event.TheVariants.{Give}
use Rattle.rules.specs.EventFile.{word_of, no_operand, one_byte, two_bytes, give_from}

pub no_operand_is : (e : Event) (l : List ℕ) → no_operand e l ≡ cond (eqb (length l) 0) (some e) none
no_operand_is e [] = refl
no_operand_is e (a ∷ rest) = rw (ne_eqb (length (a ∷ rest)) 0 (omega arith))

pub one_byte_is : (f : ℕ → Event) (l : List ℕ) → one_byte f l ≡ cond (eqb (length l) 1) (some (f (get_or l 0 0))) none
one_byte_is f [] = refl
one_byte_is f (a ∷ []) = refl
one_byte_is f (a ∷ b ∷ rest) = rw (ne_eqb (length (a ∷ b ∷ rest)) 1 (omega arith))

pub two_bytes_is :
    (f : ℕ → ℕ → Option Event) (l : List ℕ) → two_bytes f l ≡ cond (eqb (length l) 2) (f (get_or l 0 0) (get_or l 1 0)) none
two_bytes_is f [] = refl
two_bytes_is f (a ∷ []) = refl
two_bytes_is f (a ∷ b ∷ []) = refl
two_bytes_is f (a ∷ b ∷ c ∷ rest) = rw (ne_eqb (length (a ∷ b ∷ c ∷ rest)) 2 (omega arith))

pub give_from_is :
    (l : List ℕ) →
    give_from l
    ≡ cond (eqb (length l) 5) (some (Give (get_or l 0 0) (get_or l 1 0) (get_or l 2 0) (word_of (get_or l 3 0) (get_or l 4 0)))) none
give_from_is [] = refl
give_from_is (a ∷ []) = refl
give_from_is (a ∷ b ∷ []) = refl
give_from_is (a ∷ b ∷ c ∷ []) = refl
give_from_is (a ∷ b ∷ c ∷ d ∷ []) = refl
give_from_is (a ∷ b ∷ c ∷ d ∷ e ∷ []) = refl
give_from_is (a ∷ b ∷ c ∷ d ∷ e ∷ f ∷ rest) = rw (ne_eqb (length (a ∷ b ∷ c ∷ d ∷ e ∷ f ∷ rest)) 5 (omega arith))
