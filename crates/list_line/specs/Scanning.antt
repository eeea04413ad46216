-- How the code reads: by places in the text, and word by word. But for `stops` and `end_of` these definitions stand only in contracts of
-- internal functions.
use Rattle.std.specs.Prelude.{ℕ, suc, ◌≡◌, List, [], ◌∷◌, Bool, cond, not, Result}
use Rattle.rules.specs.declared.Role.{Role}
use Rattle.rules.specs.declared.Event.{Event}
use Rattle.list_line.specs.declared.fault.Fault.{Fault}
use Rattle.list_line.specs.declared.scan.Until.{Until}
use Rattle.list_line.specs.declared.scan.Until.TheVariants.{LineFeed, Hash, Blank, Word}
use Rattle.list_line.specs.Reading.{Line, One, line_feed, hash, blank, number, role, last}
use Rattle.list_line.specs.Faults.{after}

-- the bytes that a scan stops at
abbrev pub stops : Until → ℕ → Bool
stops LineFeed b = line_feed b
stops Hash b = hash b
stops Blank b = blank b
stops Word b = not (blank b)

-- how many bytes stand before the first that passes a test
unfoldable pub end_of : (ℕ → Bool) → List ℕ → ℕ
end_of test [] = 0
end_of test (b ∷ rest) = cond (test b) 0 (suc (end_of test rest))

-- a number, a role, the end of the words, taken from the words that are left: the fault, or what was taken and the words after it
pub record TakesNumber (words : List (List ℕ)) (most above : ℕ) (taken : Result ℕ Fault) (left : List (List ℕ)) : Type 0 where
  pub is : (next : ℕ → List (List ℕ) → Line) → number most above words next ≡ after taken (λ n. next n left)

pub record TakesRole (words : List (List ℕ)) (taken : Result Role Fault) (left : List (List ℕ)) : Type 0 where
  pub is : (next : Role → List (List ℕ) → Line) → role words next ≡ after taken (λ r. next r left)

pub record TakesEnd {A : Type 0} (words : List (List ℕ)) (taken : Result A Fault) : Type 0 where
  pub is : (e : Event) → last e words ≡ after taken (λ _. One e)
