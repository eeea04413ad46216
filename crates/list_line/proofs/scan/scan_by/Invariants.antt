-- From the place reached on the scan ends where it ends from the first place on.
use Prim.Native.Nat.{ℕ, ◌+◌, ◌≤◌, max}
use mathlib.Core.Path.{◌≡◌}
use mathlib.Core.Bool.{Bool}
use lib.ListN.{length, drop}
use Rattle.list_line.specs.Scanning.{end_of}
use Rattle.list_line.proofs.scan.scan_by.Given as goal

abbrev pub invariant-loop-i : goal.invariant-loop-i
invariant-loop-i g l =
    record {
      ends :
          (test : ℕ → Bool) → ((b : ℕ) (r : Bool) → goal.F-post g l.stops b r → r ≡ test b)
          → l.i + end_of test (drop l.i l.text) ≡ l.at + end_of test (drop l.at l.text);
      within : l.i ≤ max l.at (length l.text);
    }
