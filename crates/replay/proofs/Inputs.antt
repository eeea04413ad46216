-- An input by the tests that it is put to: cut short before its file, or with a file that is refused or not.
use Prim.Native.Nat.{ℕ, ◌+◌, ◌-◌, ◌≤◌, ◌<◌}
use native.Mathlib.Omega.{arith}
use mathlib.Core.Path.{◌≡◌, refl, sym, ◌∙◌}
use mathlib.Core.List.{List}
use mathlib.Core.Bool.{Bool, true, false}
use lib.Dec.{ltb}
use lib.ListN.{length, take, drop, length-drop}
use lib.Seq.{take_all}
use borrow.Author.Tests.{lt-ltb, le-ltb, ltb-false}
use Rattle.rules.specs.Refusals.{◌gives◌else◌}
use Rattle.rules.specs.EventFile.{file_refusal}
use Rattle.rules.proofs.Basics.Accepting.{passes}
use Rattle.rules.proofs.Bounds.{refusal_small}
use Rattle.rules.proofs.Files.Refusing.{refuses_long}
use Rattle.replay.specs.Behind.{refusal_behind}

module _ (at : ℕ) (input : List ℕ) where
  -- the code's part of the input from a place on
  pub part_from : take (length input - at) (drop at input) ≡ drop at input
  part_from = take_all (length input - at) (drop at input) (omega (arith, length-drop at input))

  pub cut_short : length input < at → refusal_behind at input ≡ 14
  unfolding refusal_behind
  cut_short h = rw (lt-ltb (length input) at h) refl

  pub whole : at ≤ length input → refusal_behind at input ≡ file_refusal (drop at input)
  unfolding refusal_behind
  whole h = rw (le-ltb (length input) at h) refl

  -- what an accepted input is known by
  module _ (accepted : refusal_behind at input ≡ 0) where
    pub not_short : at ≤ length input
    unfolding refusal_behind
    not_short =
        ltb-false (length input) at (passes (ltb (length input) at) 13 (file_refusal (drop at input)) accepted).0

    pub file_accepted : file_refusal (drop at input) ≡ 0
    file_accepted = sym (whole not_short) ∙ accepted

  pub refused_small : refusal_behind at input ≤ 16
  unfolding refusal_behind
  refused_small = by (ltb (length input) at) (refusal_small (drop at input))
    where
      by : (q : Bool) {k : ℕ} → k ≤ 16 → (q gives 14 else k) ≤ 16
      by true h = omega arith
      by false h = h

  -- what is too long has a file that is too long
  pub refused_long : {most : ℕ} → at ≤ most → most + 65536 < length input → refusal_behind at input ≡ 14
  refused_long early h = whole (omega arith) ∙ refuses_long (drop at input) (omega (arith, length-drop at input))
