-- Counting the live threads one by one: the count so far and those still to come make L.
use Prim.Native.Nat.{ℕ, suc, ◌+◌, ◌≤◌, ◌<◌}
use mathlib.Core.Path.{◌≡◌, ap}
use mathlib.Core.List.{List}
use mathlib.Core.Bool.{Bool, true, false}
use native.Mathlib.Omega.{arith}
use native.Mathlib.Numerals.{add-one}
use lib.ListN.{length, drop, drop_of_length-le}
use lib.Seq.{drop-cons}
use Rattle.rules.specs.declared.Thread.{Thread}
use Rattle.rules.specs.State.{free_thread, thread_at, live_thread_count, one_more_if}

-- the live threads before number i are counted
pub record Counted (ts : List Thread) (count i : ℕ) : Type 0 where
  pub inside : i ≤ 128
  pub few : count ≤ i
  pub rest : count + live_thread_count (drop i ts) ≡ live_thread_count ts

pub none_counted : (ts : List Thread) → Counted ts 0 0
none_counted ts = record { inside = omega arith; few = omega arith; rest = omega arith }

pub one_counted : (ts : List Thread) (count i more : ℕ) → length ts ≡ 128 → Counted ts count i → i < 128
    → more ≡ one_more_if (thread_at ts i).live count → Counted ts more (i + 1)
unfolding live_thread_count
one_counted ts count i more full c short e =
    let later = live_thread_count (drop (suc i) ts) in
    let at : live_thread_count (drop i ts) ≡ one_more_if (thread_at ts i).live later =
    ap live_thread_count (drop-cons ts i free_thread (omega arith)) in
    go (thread_at ts i).live at e
  where
    go : (b : Bool) → live_thread_count (drop i ts) ≡ one_more_if b (live_thread_count (drop (suc i) ts)) → more ≡ one_more_if b count
        → Counted ts more (i + 1)
    go true at e = record { inside = omega arith; few = omega (arith, c.few); rest = rw add-one (omega (arith, c.rest)) }
    go false at e = record { inside = omega arith; few = omega (arith, c.few); rest = rw add-one (omega (arith, c.rest)) }

pub all_counted : (ts : List Thread) (count i : ℕ) → length ts ≡ 128 → Counted ts count i → 128 ≤ i → count ≡ live_thread_count ts
unfolding live_thread_count
all_counted ts count i full c past =
    let e : live_thread_count (drop i ts) ≡ 0 = ap live_thread_count (drop_of_length-le ts {i = i} (omega arith)) in
    omega (arith, c.rest)
