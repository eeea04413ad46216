-- The lowest line that passes a test: what a search from line 0 up finds.
use Prim.Native.Nat.{ℕ, zero, suc, ◌+◌, ◌≤◌, ◌<◌}
use native.Mathlib.Omega.{arith}
use mathlib.Core.Path.{◌≡◌, refl, sym, ap, ◌∙◌, subst}
use mathlib.Core.Bool.{Bool, true, false, cond}
use mathlib.Core.Option.{Option, none, some}
use Rattle.std.specs.Option.{MatchOption}
use Rattle.std.specs.Prelude as std
use Rattle.std.specs.Prelude.{Some, None}
use Rattle.rules.proofs.Basics.Views.{Two, yes_true, no_false, two, Same, equal, different, same, clash}
use Rattle.tables.specs.Sets.{sought_of}
use Rattle.bridge_card.specs.Card.{lowest_from, lowest}

-- two tests that agree on the lines find the same line
same_from : (f g : ℕ → Bool) (line n : ℕ) → ((i : ℕ) → line ≤ i → i < line + n → f i ≡ g i) → lowest_from f line n ≡ lowest_from g line n
unfolding lowest_from
same_from f g line zero h = refl
same_from f g line (suc n) h =
    let here = h line (omega arith) (omega arith) in
    let later = same_from f g (suc line) n (λ i above below. h i (omega arith) (omega arith)) in
    λ i. cond (here i) (some line) (later i)

pub same_lowest : (f g : ℕ → Bool) → ((i : ℕ) → i < 8 → f i ≡ g i) → lowest f ≡ lowest g
same_lowest f g h = same_from f g 0 8 (λ i above below. h i below)

-- what is found: a line that passes, and none below it does
pub record Lowest (test : ℕ → Bool) (from until line : ℕ) : Type 0 where
  pub above : from ≤ line
  pub inside : line < until
  pub passes : test line ≡ true
  pub first : (other : ℕ) → from ≤ other → other < line → test other ≡ false

-- or no line passes
abbrev pub Finds : (ℕ → Bool) → ℕ → ℕ → Option ℕ → Type 0
Finds test from until none = (line : ℕ) → from ≤ line → line < until → test line ≡ false
Finds test from until (some line) = Lowest test from until line

finds_from : (test : ℕ → Bool) (line n : ℕ) → Finds test line (line + n) (lowest_from test line n)
unfolding lowest_from
finds_from test line zero = λ other above below. absurd (omega arith)
finds_from test line (suc n) = here (two (test line)) (finds_from test (suc line) n)
  where
    wider : (o : Option ℕ) → test line ≡ false → Finds test (suc line) (suc line + n) o → Finds test line (line + suc n) o
    wider none e f = λ other above below. by other below (same other line) above
      where
        by : (other : ℕ) → other < line + suc n → Same other line → line ≤ other → test other ≡ false
        by other below (equal q _) above = ap test q ∙ e
        by other below (different q _) above = f other (omega arith) (omega arith)
    wider (some k) e f =
        record {
          above = omega (arith, f.above);
          inside = omega (arith, f.inside);
          passes = f.passes;
          first = λ other above below. by other below (same other line) above;
        }
      where
        by : (other : ℕ) → other < k → Same other line → line ≤ other → test other ≡ false
        by other below (equal q _) above = ap test q ∙ e
        by other below (different q _) above = f.first other (omega arith) below

    here : Two (test line) → Finds test (suc line) (suc line + n) (lowest_from test (suc line) n)
        → Finds test line (line + suc n) (cond (test line) (some line) (lowest_from test (suc line) n))
    here (yes_true e) f =
        rw e (record { above = omega arith; inside = omega arith; passes = e; first = λ other above below. absurd (omega arith) })
    here (no_false e) f = rw e (wider (lowest_from test (suc line) n) e f)

pub finds : (test : ℕ → Bool) → Finds test 0 8 (lowest test)
finds test = finds_from test 0 8

pub finds_line : (test : ℕ → Bool) (line : ℕ) → lowest test ≡ some line → Lowest test 0 8 line
finds_line test line e = subst (Finds test 0 8) e (finds test)

-- a line that passes, and none below it does, is the one found
pub found_lowest : (test : ℕ → Bool) (line : ℕ) → line < 8 → test line ≡ true → ((lower : ℕ) → lower < line → test lower ≡ false)
    → (o : Option ℕ) → Finds test 0 8 o → o ≡ some line
found_lowest test line small here lower none f = clash (test line) here (f line (omega arith) small)
found_lowest test line small here lower (some k) f =
    let not_below : (k < line) → ⊥ = λ h. clash (test k) f.passes (lower k h) in
    let not_above : (line < k) → ⊥ = λ h. clash (test line) here (f.first line (omega arith) h) in
    let this : k ≡ line = omega arith in
    ap some this

-- what a search from line 0 up finds
pub searched : (test : ℕ → Bool) (r : std.Option ℕ) → MatchOption r ((k : ℕ) → 0 ≤ k → k < 8 → test k ≡ false)
    (λ line. (0 ≤ line) × (line < 8) × (test line ≡ true) × ((k : ℕ) → 0 ≤ k → k < line → test k ≡ false))
    → sought_of r ≡ lowest test
searched test None none_passes = sym (none_of (lowest test) (finds test))
  where
    none_of : (o : Option ℕ) → Finds test 0 8 o → o ≡ none
    none_of none f = refl
    none_of (some line) f = clash (test line) f.passes (none_passes line f.above f.inside)
searched test (Some line) (_, small, passes, first) =
    sym (found_lowest test line small passes (λ lower below. first lower (omega arith) below) (lowest test) (finds test))
