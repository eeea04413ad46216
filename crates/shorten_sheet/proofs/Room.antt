-- How much a program must read and how much it must write: a file with more bytes than are allowed is refused by its length alone, and no
-- shorter question is longer than its file.
use Prim.Native.Nat.{ℕ, zero, suc, ◌≤◌, ◌<◌}
use native.Mathlib.Omega.{arith}
use mathlib.Core.Path.{◌≡◌, refl, ap}
use mathlib.Core.List.{List, [], ◌∷◌}
use mathlib.Core.Bool.{Bool, true, false}
use lib.ListN.{length, take}
use Rattle.rules.specs.State.{empty}
use Rattle.rules.specs.EventFile.{Bytes, file_refusal, events_of}
use Rattle.rules.specs.Key.{file_line}
use Rattle.rules.specs.Shorten.{refused_in, shorter_if, shorter_after, shorter}
use Rattle.rules.proofs.Files.Accepting.{accepted}
use Rattle.rules.proofs.Files.Refusing.{refuses_long}
use Rattle.rules.proofs.Files.ReadThenWritten.{bytes_drop}
use Rattle.rules.proofs.Bounds.{refusal_small}
use Rattle.rules.proofs.Shortening.Refusing.{refused_of}
use Rattle.rules.proofs.Shortening.Shorter.{written}
use Rattle.text.proofs.DigitCounts.{file_line_length}
use Rattle.text.proofs.Enough.{enough_for_one}

long_shorter : (input : List ℕ) → 65537 < length input → shorter input ≡ file_line 14
unfolding shorter
long_shorter [] h = refl
long_shorter (k ∷ file) h = rw (refuses_long file (omega arith))

pub enough_for_shorter : (n : ℕ) → 65537 < n → (b : List ℕ) → shorter (take n b) ≡ shorter b
enough_for_shorter = enough_for_one shorter 65537 (file_line 14) long_shorter

-- by what the input is refused for
fits_if : (b : Bool) (k : ℕ) (file : List ℕ) → Bytes file → file_refusal file ≡ 0 → refused_in k (events_of file) ≡ b
    → length (shorter_if b k (events_of file)) ≤ 65536
fits_if true k file narrow h test =
    let w = written k file h narrow (refused_of k (events_of file) empty test) in
    omega (arith, ap length w.bytes, w.small, (accepted file h).head.small)
fits_if false k file narrow h test = omega (arith, file_line_length 26 (omega arith))

fits_after : (n k : ℕ) (file : List ℕ) → Bytes file → file_refusal file ≡ n → length (shorter_after n k file) ≤ 65536
fits_after zero k file narrow h = fits_if (refused_in k (events_of file)) k file narrow h refl
fits_after (suc n) k file narrow h = omega (arith, file_line_length (suc n) (omega (arith, refusal_small file)))

pub shorter_fits : (input : List ℕ) → Bytes input → length (shorter input) ≤ 65536
unfolding shorter
shorter_fits [] narrow = omega (arith, file_line_length 14 (omega arith))
shorter_fits (k ∷ file) narrow = fits_after (file_refusal file) k file (bytes_drop 1 (k ∷ file) narrow) refl
