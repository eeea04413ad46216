-- Counting the live threads whose numbers meet a test. Where a wider test takes in one live thread more, it counts one more.
use Prim.Native.Nat.{ℕ, zero, suc, ◌≤◌, ◌<◌}
use mathlib.Core.Path.{◌≡◌, refl}
use mathlib.Core.List.{List, [], ◌∷◌}
use mathlib.Core.Bool.{Bool, true, false, false≢true, ◌&&◌}
use native.Mathlib.Omega.{arith}
use Rattle.rules.specs.declared.Thread.{Thread}
use Rattle.rules.specs.State.{live_at, live_thread_count, one_more_if}
use Rattle.rules.proofs.Basics.Views.{and_true_left}

-- the first test implies the second
abbrev pub Wider : (ℕ → Bool) → (ℕ → Bool) → Type 0
Wider f g = (n : ℕ) → f n ≡ true → g n ≡ true

-- how many live threads meet the test
unfoldable pub live_that : (ℕ → Bool) → List Thread → ℕ
live_that f [] = zero
live_that f (t ∷ ts) = one_more_if (t.live && f zero) (live_that (λ n. f (suc n)) ts)

-- one thread more, counted by the wider test if by the narrower, keeps the order of the counts so far
at_head :
    {x y : Bool} {a b : ℕ} → (x ≡ true → y ≡ true)
    → (a ≤ b → one_more_if x a ≤ one_more_if y b) × (a < b → one_more_if x a < one_more_if y b)
at_head {x = false} {y = false} wider = omega arith
at_head {x = false} {y = true} wider = omega arith
at_head {x = true} wider = rw (wider refl) (omega arith)

-- among the live, too
and_wider : (x : Bool) {y z : Bool} → (y ≡ true → z ≡ true) → x && y ≡ true → x && z ≡ true
and_wider true wider h = wider h
and_wider false wider h = h

-- at most all the live threads meet a test
pub live_that_at_most : (f : ℕ → Bool) (ts : List Thread) → live_that f ts ≤ live_thread_count ts
unfolding live_that live_thread_count
live_that_at_most f [] = omega arith
live_that_at_most f (t ∷ ts) = (at_head (and_true_left t.live (f zero))).0 (live_that_at_most (λ n. f (suc n)) ts)

-- a wider test counts no fewer
live_that_wider : (f g : ℕ → Bool) → Wider f g → (ts : List Thread) → live_that f ts ≤ live_that g ts
unfolding live_that
live_that_wider f g wider [] = omega arith
live_that_wider f g wider (t ∷ ts) = (at_head (and_wider t.live (wider zero))).0 (live_that_wider _ _ (λ n. wider (suc n)) ts)

-- a live thread that meets the wider test only is one more
pub live_that_more :
    (f g : ℕ → Bool) → Wider f g → (ts : List Thread) (n : ℕ) → live_at ts n ≡ true → f n ≡ false → g n ≡ true
    → live_that f ts < live_that g ts
unfolding live_that
live_that_more f g wider [] n live out inside = absurd (false≢true live)
live_that_more f g wider (t ∷ ts) zero live out inside =
    let rest = live_that_wider (λ n. f (suc n)) (λ n. g (suc n)) (λ n. wider (suc n)) ts in rw (live, out, inside) (omega arith)
live_that_more f g wider (t ∷ ts) (suc n) live out inside =
    (at_head (and_wider t.live (wider zero))).1 (live_that_more _ _ (λ n. wider (suc n)) ts n live out inside)
