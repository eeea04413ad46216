-- THE THEOREM of the shares' buffer: the shares of every file of bytes have room in 4,096 bytes, because there are at most 128 lines, and a
-- line has at most 31 bytes: the total has ten digits at most, the parts are at most 1,000, and no other figure is above the total.
use Prim.Native.Nat.{ℕ, zero, suc, ◌*◌, ◌≤◌, ◌<◌}
use native.Mathlib.Nat.{mul-le-mul_right}
use native.Mathlib.Omega.{arith}
use mathlib.Core.Path.{◌≡◌, refl}
use mathlib.Core.List.{List, [], ◌∷◌}
use lib.ListN.{length, length-append}
use lib.Dec.{leb}
use borrow.Author.Tests.{leb-true, leb-false}
use Rattle.rules.specs.EventFile.{Bytes, file_refusal, events_of}
use Rattle.rules.specs.Key.{bytes}
use Rattle.rules.specs.Shares.{Share, shares_in, share_line, share_lines, shares_after, shares}
use Rattle.rules.proofs.Basics.Views.{Two, yes_true, no_false, two}
use Rattle.rules.proofs.Bounds.{refusal_small}
use Rattle.rules.proofs.Shares.{TrueShare, AllTrue, printed}
use Rattle.text.proofs.DigitCounts.{three_long, four_long, ten_long, file_line_length}

-- more than 1,000 parts would be more units than the total
parts_most : (all : ℕ) (x : Share) → TrueShare all x → x.parts ≤ 1000
parts_most all x t = by (two (leb x.parts 1000))
  where
    by : Two (leb x.parts 1000) → x.parts ≤ 1000
    by (yes_true h) = leb-true x.parts 1000 h
    by (no_false h) =
        let more : 1001 ≤ x.parts = omega (arith, leb-false x.parts 1000 h) in
        absurd (omega (arith, mul-le-mul_right all more, t.whole, t.within, t.below))

line_length : (all : ℕ) (x : Share) → all < 10000000000 → TrueShare all x → length (share_line x) ≤ 31
unfolding share_line bytes
line_length all x h t =
    simp length-append
    (omega (
      arith,
      three_long x.timeslice (omega (arith, t.number)),
      ten_long x.units (omega (arith, t.within)),
      four_long x.parts (omega (arith, parts_most all x t)),
      ten_long x.remainder (omega (arith, t.below)),
    ))

lines_length : (all : ℕ) (xs : List Share) → all < 10000000000 → AllTrue all xs → length (share_lines xs) ≤ 31 * length xs
unfolding share_lines
lines_length all [] h t = omega arith
lines_length all (x ∷ xs) h t = rw length-append (omega (arith, line_length all x h t.0, lines_length all xs h t.1))

-- by what the file is refused for
fits_after : (n : ℕ) (file : List ℕ) → Bytes file → file_refusal file ≡ n → length (shares_after n file) ≤ 4096
fits_after zero file bytes h =
    let p = printed file bytes h in
    let lines = lines_length _ (shares_in (events_of file)) (omega (arith, p.bound)) p.true_of.lines in
    omega (arith, lines, p.true_of.few)
fits_after (suc n) file bytes h = omega (arith, file_line_length (suc n) (omega (arith, refusal_small file)))

pub shares_fit : (file : List ℕ) → Bytes file → length (shares file) ≤ 4096
unfolding shares
shares_fit file bytes = fits_after (file_refusal file) file bytes refl
