-- THE THEOREMS of the buffers: the key of every file of bytes has room in 1 MiB, because a file has at most one event for each two of its
-- 65,536 bytes, and a line at most 31 bytes; the plain machine's key is no longer.
use Prim.Native.Nat.{ℕ, zero, suc, ◌≤◌}
use native.Mathlib.Omega.{arith}
use mathlib.Core.Path.{◌≡◌, refl}
use mathlib.Core.List.{List, [], ◌∷◌}
use mathlib.Core.Bool.{Bool, true, false, cond, ◌&&◌, ◌||◌}
use lib.Dec.{eqb}
use lib.ListN.{length}
use Rattle.rules.specs.State.{empty}
use Rattle.rules.specs.Lists.{run}
use Rattle.rules.specs.EventFile.{Bytes, file_refusal, events_of}
use Rattle.rules.specs.Key.{key_after, key, plain_key, no_space_left, without_last_from, but_last}
use Rattle.rules.proofs.Demands.{empty_sound}
use Rattle.rules.proofs.LastColumn.{plain_but_last}
use Rattle.rules.proofs.Bounds.{run_narrow, run_length, refusal_small}
use Rattle.rules.proofs.Soundness.Places.{sound_of}
use Rattle.rules.proofs.Files.Records.{all_ranged}
use Rattle.rules.proofs.Files.Accepting.{accepted}
use Rattle.rules.proofs.Files.Inverse.{events_fit, events_most}
use Rattle.text.proofs.DigitCounts.{file_line_length}
use Rattle.text.proofs.Lengths.{lines_length}

-- by what the file is refused for
fits_after : (n : ℕ) (file : List ℕ) → Bytes file → file_refusal file ≡ n → length (key_after n file) ≤ 1048576
fits_after zero file bytes h =
    let few = events_most file bytes h in
    let answers = run_length (events_of file) empty in
    let small = (accepted file h).head.small in
    let ranged = all_ranged (events_of file) (events_fit file bytes) in
    let narrow = run_narrow (events_of file) empty ranged (sound_of empty empty_sound) in
    let most = lines_length 1 (run (events_of file) empty) narrow (omega arith) in
    omega arith
fits_after (suc n) file bytes h = omega (arith, file_line_length (suc n) (omega (arith, refusal_small file)))

pub key_fits : (file : List ℕ) → Bytes file → length (key file) ≤ 1048576
unfolding key
key_fits file bytes = fits_after (file_refusal file) file bytes refl

-- what is left out makes it no longer
without_length : (inside : Bool) (l : List ℕ) → length (without_last_from inside l) ≤ length l
unfolding without_last_from
without_length inside [] = omega arith
without_length inside (b ∷ rest) =
    by (eqb b 10) (inside || eqb b 32 && no_space_left rest) (without_length false rest) (without_length true rest)
  where
    by : (feed out : Bool) → length (without_last_from false rest) ≤ length rest → length (without_last_from true rest) ≤ length rest
        → length (cond feed (b ∷ without_last_from false rest) (cond out (without_last_from true rest) (b ∷ without_last_from false rest)))
        ≤ suc (length rest)
    by true out stays goes = omega arith
    by false true stays goes = omega arith
    by false false stays goes = omega arith

but_last_length : (n : ℕ) (l : List ℕ) → length (but_last n l) ≤ length l
but_last_length zero l = without_length false l
but_last_length (suc n) l = omega arith

pub plain_fits : (file : List ℕ) → Bytes file → length (plain_key file) ≤ 1048576
plain_fits file bytes =
    rw (plain_but_last file bytes) (omega (arith, but_last_length (file_refusal file) (key file), key_fits file bytes))
