-- Some of the events that are left, run on a sound machine: it stays sound, and the links of up to 255 events have eight digits.
use Prim.Native.Nat.{ℕ, zero, suc, ◌*◌, ◌≤◌, ◌<◌}
use native.Mathlib.Omega.{arith}
use mathlib.Core.Path.{◌≡◌}
use mathlib.Core.List.{List, [], ◌∷◌}
use mathlib.Core.Bool.{true}
use lib.ListN.{length, take, drop, length-take}
use Rattle.rules.specs.declared.Event.{Event}
use Rattle.rules.specs.State.{State}
use Rattle.rules.specs.Sound.{sound}
use Rattle.rules.specs.Events.{Answered}
use Rattle.rules.specs.Lists.{AllRanged, run, after, links_in_all}
use Rattle.rules.proofs.Bounds.{AllNarrow, run_narrow, run_length}
use Rattle.rules.proofs.Demands.{after_sound}
use Rattle.rules.proofs.Soundness.Places.{sound_of}

links_bound : (l : List Answered) → AllNarrow l → links_in_all l ≤ 65535 * length l
unfolding links_in_all
links_bound [] x = omega arith
links_bound (a ∷ rest) x = omega (arith, x.0.links, links_bound rest x.1)

ranged_front : (n : ℕ) (es : List Event) → AllRanged es → AllRanged (take n es)
ranged_front zero es f = tt
ranged_front (suc n) [] f = tt
ranged_front (suc n) (e ∷ es) f = (f.0, ranged_front n es f.1)

ranged_rest : (n : ℕ) (es : List Event) → AllRanged es → AllRanged (drop n es)
ranged_rest zero es f = f
ranged_rest (suc n) [] f = tt
ranged_rest (suc n) (e ∷ es) f = ranged_rest n es f.1

pub record RunWithin (n : ℕ) (es : List Event) (s : State) : Type 0 where
  pub sound_after_lem : sound (after (take n es) s) ≡ true
  pub links : links_in_all (run (take n es) s) < 100000000
  pub ranged : AllRanged (drop n es)

pub run_within : (n : ℕ) (es : List Event) (s : State) → n < 256 → AllRanged es → sound s ≡ true → RunWithin n es s
run_within n es s small f h =
    let some = take n es in
    let front = ranged_front n es f in
    let narrow = run_narrow some s front (sound_of s h) in
    record {
      sound_after_lem = after_sound some s front h;
      links = omega (arith, links_bound (run some s) narrow, run_length some s, length-take n es);
      ranged = ranged_rest n es f;
    }
