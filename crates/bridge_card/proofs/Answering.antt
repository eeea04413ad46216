-- What an operation answers, by what the check of its block and its argument found.
use Prim.Native.Nat.{ℕ}
use native.Mathlib.Omega.{arith}
use mathlib.Core.Path.{◌≡◌, ap, ◌∙◌}
use mathlib.Core.List.{List}
use mathlib.Core.Bool.{cond}
use lib.Dec.{ltb, eqb}
use lib.ListN.{get_or}
use Rattle.rules.specs.declared.refusal.Refusal.{Refusal}
use Rattle.rules.specs.RefusalNumbers.{number_of}
use Rattle.bridge_card.specs.Card.{refusal_of, not_written, read_refusal, write_refusal, raise_refusal, read_after, read, changed_after}
use Rattle.bridge_card.specs.Card.{written, write, raised, raise}

-- a refusal's number is not 0, that of what is accepted
no_byte : (x : Refusal) (b : List ℕ) (register : ℕ) → record { refusal = number_of x; byte = 0 } ≡ read_after (number_of x) b register
no_byte x b register = grind arith

no_change : (x : Refusal) (changed b : List ℕ) → record { refusal = number_of x; block = b } ≡ changed_after (number_of x) changed b
no_change x changed b = grind arith

changes : {k : ℕ} (found changed b : List ℕ) → found ≡ changed → 0 ≡ k → record { refusal = 0; block = found } ≡ changed_after k changed b
changes found changed b is e = ap (λ (l : List ℕ). record { refusal = 0; block = l }) is ∙ ap (λ (k : ℕ). changed_after k changed b) e

module _ (b : List ℕ) (register : ℕ) where
  pub read_refused : (x : Refusal) → number_of x ≡ refusal_of b (ltb 11 register)
      → record { refusal = number_of x; byte = 0 } ≡ read b register
  unfolding read read_refusal
  read_refused x e = no_byte x b register ∙ ap (λ (k : ℕ). read_after k b register) e

  pub read_done : 0 ≡ refusal_of b (ltb 11 register) → (byte : ℕ) → byte ≡ cond (eqb register 3) 0 (get_or b register 0)
      → record { refusal = 0; byte = byte } ≡ read b register
  unfolding read read_refusal
  read_done e byte is = ap (λ (n : ℕ). record { refusal = 0; byte = n }) is ∙ ap (λ (k : ℕ). read_after k b register) e

module _ (b : List ℕ) (register byte : ℕ) where
  pub write_refused : (x : Refusal) → number_of x ≡ refusal_of b (not_written register)
      → record { refusal = number_of x; block = b } ≡ write b register byte
  unfolding write write_refusal
  write_refused x e = no_change x (written b register byte) b ∙ ap (λ (k : ℕ). changed_after k (written b register byte) b) e

  pub write_done : 0 ≡ refusal_of b (not_written register) → (changed : List ℕ) → changed ≡ written b register byte
      → record { refusal = 0; block = changed } ≡ write b register byte
  unfolding write write_refusal
  write_done e changed is = changes changed (written b register byte) b is e

module _ (b : List ℕ) (line : ℕ) where
  pub raise_refused : (x : Refusal) → number_of x ≡ refusal_of b (ltb 7 line) → record { refusal = number_of x; block = b } ≡ raise b line
  unfolding raise raise_refusal
  raise_refused x e = no_change x (raised b line) b ∙ ap (λ (k : ℕ). changed_after k (raised b line) b) e

  pub raise_done : 0 ≡ refusal_of b (ltb 7 line) → (changed : List ℕ) → changed ≡ raised b line
      → record { refusal = 0; block = changed } ≡ raise b line
  unfolding raise raise_refusal
  raise_done e changed is = changes changed (raised b line) b is e
