-- What the events need of what runs on a sound machine: the current timeslice is listed, and its number and the count are small.
use Prim.Native.Nat.{ℕ, ◌≤◌, ◌<◌}
use mathlib.Core.Path.{◌≡◌}
use mathlib.Core.Bool.{true}
use native.Mathlib.Omega.{arith}
use Rattle.rules.specs.declared.Running.TheVariants.{Runs}
use Rattle.rules.specs.Tests.{member}
use Rattle.rules.specs.State.{State}
use Rattle.rules.specs.Sound.{sound}
use Rattle.rules.proofs.Soundness.Places.{sound_of}
use Rattle.rules.proofs.Events.Hands.{active}
use Rattle.rules.proofs.Bounds.{running_most, sound_live_most}

module _ (s : State) (n t count : ℕ) (ok : sound s ≡ true) (e : s.running ≡ Runs n t count) where
  pub current_listed : member t s.order ≡ true
  current_listed = (active s (sound_of s ok) n t count e).listed

  pub current_fits : t < 128
  current_fits = (running_most s (sound_of s ok) n t count e).1

  pub count_fits : count ≤ 128
  count_fits = omega (arith, (running_most s (sound_of s ok) n t count e).2, sound_live_most s (sound_of s ok))

  pub running_fits : n < 128
  running_fits = (running_most s (sound_of s ok) n t count e).0
