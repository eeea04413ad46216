-- Words taken one after the other: each gives its fault or its value, and leaves the words after it; the first fault is the line's.
use Prim.Native.Nat.{ℕ, ◌≤◌, ◌<◌}
use mathlib.Core.Path.{◌≡◌, refl}
use mathlib.Core.Bool.{true, false}
use mathlib.Core.List.{List, ◌∷◌}
use borrow.Author.Tests.{le-leb, lt-leb}
use Rattle.std.specs.Prelude.{Ok, Err}
use Rattle.rules.specs.Tests.{all}
use Rattle.list_line.specs.declared.fault.Fault.{Fault}
use Rattle.list_line.specs.declared.fault.Fault.TheVariants.{Missing}
use Rattle.list_line.specs.Reading.{digit_byte, value}
use Rattle.list_line.specs.Faults.{number_of}
use Rattle.list_line.specs.Scanning.{TakesNumber}

-- a number
module _ {words left : List (List ℕ)} (word : List ℕ) (most above : ℕ) (there : words ≡ word ∷ left) where
  pub takes_no_number : all digit_byte word ≡ false → TakesNumber words most above (Err Missing) left
  takes_no_number e = record { is = λ next. rw (there, e) refl }

  pub takes_above : (fault : Fault) → above ≡ number_of fault → all digit_byte word ≡ true → most < value word
      → TakesNumber words most above (Err fault) left
  takes_above fault f e large = record { is = λ next. rw (there, e, lt-leb (value word) most large, f) refl }

  pub takes : (n : ℕ) → all digit_byte word ≡ true → n ≡ value word → n ≤ most → TakesNumber words most above (Ok n) left
  takes n e f small = record { is = λ next. rw (there, e, ← f, le-leb n most small) refl }
