-- Whatever a program prints of an accepted file: if it prints its line for every refusal number, it prints that line for a refused file.
use Prim.Native.Nat.{ℕ, zero, suc}
use native.Mathlib.Omega.{arith}
use mathlib.Core.Path.{◌≡◌, refl, sym, ap, ◌∙◌}
use mathlib.Core.List.{List}
use Rattle.std.specs.Prelude.{Result, Err}
use Rattle.rules.specs.declared.refusal.Refusal.{Refusal}
use Rattle.rules.specs.declared.refusal.Refusal.TheVariants.{Unsound, AboveLimit, InUse, NotLive, NothingRuns, NotAServer, Itself}
use Rattle.rules.specs.declared.refusal.Refusal.TheVariants.{RunsAClient, NotBlocked, NotLinked, BadCharge, NoQuantum, OwnsOne, BadLength}
use Rattle.rules.specs.declared.refusal.Refusal.TheVariants.{BadVersion, BadRecord, NoRoom, NotSpent, NoSuchEvent, BadBlock}
use Rattle.rules.specs.declared.refusal.Refusal.TheVariants.{NoSuchRegister, NoLine, BadRow, Overlap, Gap, NeverRefused, NotAboveHeld}
use Rattle.rules.specs.RefusalNumbers.{number_of, number_in}
use Rattle.rules.specs.Key.{file_line}

-- no refusal has the number 0
pub refuses : (e : Refusal) → number_of e ≡ 0 → ⊥
refuses Unsound h = omega arith
refuses AboveLimit h = omega arith
refuses InUse h = omega arith
refuses NotLive h = omega arith
refuses NothingRuns h = omega arith
refuses NotAServer h = omega arith
refuses Itself h = omega arith
refuses RunsAClient h = omega arith
refuses NotBlocked h = omega arith
refuses NotLinked h = omega arith
refuses BadCharge h = omega arith
refuses NoQuantum h = omega arith
refuses OwnsOne h = omega arith
refuses BadLength h = omega arith
refuses BadVersion h = omega arith
refuses BadRecord h = omega arith
refuses NoRoom h = omega arith
refuses NotSpent h = omega arith
refuses NoSuchEvent h = omega arith
refuses BadBlock h = omega arith
refuses NoSuchRegister h = omega arith
refuses NoLine h = omega arith
refuses BadRow h = omega arith
refuses Overlap h = omega arith
refuses Gap h = omega arith
refuses NeverRefused h = omega arith
refuses NotAboveHeld h = omega arith

module _ (prints : ℕ → List ℕ) (line : (n : ℕ) → prints (suc n) ≡ file_line (suc n)) where
  line_of : (n : ℕ) → (n ≡ 0 → ⊥) → file_line n ≡ prints n
  line_of zero h = absurd (h refl)
  line_of (suc n) h = sym (line n)

  pub refused_line : {n refusal : ℕ} → n ≡ refusal → (n ≡ 0 → ⊥) → file_line n ≡ prints refusal
  refused_line {n} e h = line_of n h ∙ ap prints e

  -- the same of an answer that is a refusal
  pub refused_answer :
      {A : Type 0} {answer : Result A Refusal} {e : Refusal} {refusal : ℕ} →
      number_in answer ≡ refusal → answer ≡ Err e → file_line (number_of e) ≡ prints refusal
  refused_answer {e = e} asked is = refused_line (ap number_in (sym is) ∙ asked) (refuses e)
